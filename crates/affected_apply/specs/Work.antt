-- A job as its callers see it.
use Rattle.std.specs.Prelude.{◌<◌, ℕ, false, [], length}
use Rattle.settings_tree.specs.declared.entry.Owed.{Owed}
use Rattle.metadata_links.specs.declared.manifest.Manifest.{Manifest}
use Rattle.metadata_links.specs.Links.{files_of, commands_of}
use Rattle.settings_machine.specs.World.{Work}
use Rattle.settings_machine.specs.Step.{Command}

-- What is to do, and how many keys can be noted before memory is taken.
pub record JobAt : Type 0 where
  pub work : Work
  pub spare : ℕ

-- What is to do when a job of owed keys begins.
abbrev pub work_of : Manifest → Owed → Work
work_of m owed = record { files = files_of m owed; commands = commands_of m owed; since = []; again = false }

-- The command has a word.
abbrev pub HasWord : Command → Type 0
HasWord c = 0 < length c.1.1
