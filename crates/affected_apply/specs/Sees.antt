-- What a turn of a job reads, and the image that it is of.
use Rattle.std.specs.Prelude.{◌≡◌, ℕ, List, IsSome}
use Rattle.std.specs.FinMap.{get}
use Rattle.metadata_links.specs.declared.manifest.Manifest.{Manifest}
use Rattle.settings_machine.specs.World.{Image}
use Rattle.settings_machine.specs.Seen.{HoldsTemplates}
use Rattle.affected_apply.specs.declared.view.View.{View}

-- The view is one of the image: it has the image's names of the operating system, its manifest and its templates.
pub record Sees (I : Image) (view : View) : Type 0 where
  pub os : view.os.now ≡ I.os
  pub manifest : view.manifest.now ≡ I.manifest
  pub templates : HoldsTemplates I view.templates.now

-- The manifest has the file.
abbrev pub HasRow : Manifest → List ℕ → Type 0
HasRow manifest file = IsSome (get manifest.files file)
