-- Data directories that are not taken.
use Rattle.std.specs.Prelude.{◌≡◌, ◌≢◌, ℕ, ◌<◌, [], Some}
use Rattle.outside.specs.Tree.{Tree, paths_below}
use Rattle.version_links.specs.Names.{Target, patch_name, name_of, numbers, directory}
use Rattle.version_links.specs.Chain.{link_at}

-- No path is below the data directory, and the link of its version doesn't name it.
pub record IsFree (tree : Tree) (target : Target) : Type 0 where
  pub empty : paths_below (directory target) tree ≡ []
  pub unnamed : link_at tree (patch_name target.version.major target.version.minor target.version.patch) ≢ Some (name_of (numbers target))

-- The data directory is free, and none of its version with a smaller id is.
pub record IsFirstFree (tree : Tree) (target : Target) : Type 0 where
  pub free : IsFree tree target
  pub least : (k : ℕ) → k < target.id → IsFree tree (record { version = target.version; id = k }) → ⊥
