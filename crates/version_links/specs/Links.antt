-- A data directory with the four links that lead to it.
use Rattle.std.specs.Prelude.{◌≡◌, ℕ, List, codes}
use Rattle.outside.specs.Names.{Names}
use Rattle.version_links.specs.declared.link.Link.{Link}
use Rattle.version_links.specs.Names.{Target, IsTarget, store, directory, major_name, minor_name, patch_name, directory_name}

-- The link has this name in the store, and this text.
pub record IsLink (link : Link) (name text : List ℕ) : Type 0 where
  pub path_is : link.path ≡ store name
  pub text_is : link.text.items ≡ text

-- The parts are a data directory and the links that lead to it.
pub record AreNames (target : Target) (path : Names) (patch minor major current : Link) : Type 0 where
  pub fits : IsTarget target
  pub path_is : path ≡ directory target
  pub patch_is : let v = target.version in IsLink patch (patch_name v.major v.minor v.patch) (directory_name v.major v.minor v.patch target.id)
  pub minor_is : let v = target.version in IsLink minor (minor_name v.major v.minor) (patch_name v.major v.minor v.patch)
  pub major_is : let v = target.version in IsLink major (major_name v.major) (minor_name v.major v.minor)
  pub current_is : IsLink current (codes "current") (major_name target.version.major)
