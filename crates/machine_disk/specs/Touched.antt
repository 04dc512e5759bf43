-- Which paths the events of a call may change.
use Rattle.std.specs.Prelude.{◌≡◌, ◌⊎◌, true, ℕ, List}
use Rattle.outside.specs.Names.{Names}
use Rattle.outside.specs.History.{History, tree_of}
use Rattle.outside.specs.Since.{Touches}
use Rattle.commit_journal.specs.Files.{IsBelow}
use Rattle.version_links.specs.Chain.{Resolves, found}
use Rattle.version_links.specs.declared.version.Version.{Version}
use Rattle.settings_machine.specs.World.{Among, Image, is_etc, path_of}
use Rattle.settings_machine.specs.Step.{Answer}
use Rattle.settings_machine.specs.Events.{Event, Turned}

-- The path is that of a file of the manifest, which is below `etc`.
pub record IsFilePath (I : Image) (path : Names) : Type 0 where
  pub file : List ℕ
  pub path_is : path ≡ path_of I file
  pub below : is_etc path ≡ true

-- A turn of a job is among the events.
abbrev pub HasTurn : List Event → Type 0
HasTurn events = (answer : Answer) × Among events (Turned answer)

-- The path is below the data directory; or a turn is among the events, and the path is that of a file of the manifest.
abbrev pub MayChange : Image → List Event → Names → Names → Type 0
MayChange I events directory path = IsBelow directory path ⊎ (HasTurn events × IsFilePath I path)

-- No other path is touched, with the data directory to which the links lead: no link, no other data directory, no file of the image.
abbrev pub TouchesOwn : Image → List Event → History → History → Type 0
TouchesOwn I events old new = (version : Version) (directory : Names) → Resolves (tree_of old) (found version directory)
    → Touches (MayChange I events directory) old new
