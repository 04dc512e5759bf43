-- The parts of a batch, and how they hang together.
use Rattle.std.specs.Prelude.{◌≡◌, ℕ, List, ◌++◌, map}
use Rattle.outside.specs.Names.{Names}
use Rattle.commit_journal.specs.declared.placed_entry.PlacedEntry.{PlacedEntry}
use Rattle.commit_journal.specs.Entries.{Entry, placed}
use Rattle.commit_journal.specs.Journal.{IsJournal}
use Rattle.commit_journal.specs.Stands.{journal}

-- The entries by their paths below the directory.
abbrev pub entries_of : List PlacedEntry → List Entry
entries_of all = map (λ e. (e.relative, e.bytes)) all

-- The entries by their whole paths.
abbrev pub places_of : List PlacedEntry → List Entry
places_of all = map (λ e. (e.path, e.bytes)) all

-- These are the entries, each with its whole path.
pub record ArePlaced (dir : Names) (entries : List Entry) (all : List PlacedEntry) : Type 0 where
  pub entries_are : entries_of all ≡ entries
  pub places_are : places_of all ≡ placed dir entries

-- The parts of a batch: its text is the journal of its entries, and all paths are below its directory.
pub record AreParts (dir path : Names) (text : List ℕ) (all : List PlacedEntry) : Type 0 where
  pub path_is : path ≡ dir ++ journal
  pub text_is : IsJournal (entries_of all) text
  pub places_are : places_of all ≡ placed dir (entries_of all)
