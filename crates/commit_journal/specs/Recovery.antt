-- What a recovery does to a disk.
use Rattle.std.specs.Prelude.{◌≡◌, ◌⊎◌, List, ℕ, ◌++◌, Bool, false, is_some, Option, Some, None, Result, OnOk, IfOk, IsErrOf}
use Rattle.outside.specs.Names.{Names}
use Rattle.outside.specs.Tree.{Tree, file_in, link_in}
use Rattle.outside.specs.History.{History, next, synced, tree_of, IsSettled}
use Rattle.outside.specs.Since.{EachSince, Touches}
use Rattle.commit_journal.specs.declared.journal_error.JournalError.{JournalError}
use Rattle.commit_journal.specs.declared.journal_error.JournalError.TheVariants as told
use Rattle.commit_journal.specs.Entries.{Entry}
use Rattle.commit_journal.specs.Files.{Files, files_below, IsBelow}
use Rattle.commit_journal.specs.Journal.{IsJournal}
use Rattle.commit_journal.specs.Stands.{journal, TreeStandsFor, IsReady, ChangesOnlyBelow}

-- The bytes of the file `journal`, if it is there.
abbrev pub journal_in : Names → Tree → Option (List ℕ)
journal_in dir tree = file_in (files_below dir tree journal)

-- A file `journal` is there, and its text is the journal of no batch.
abbrev pub IsBad : Names → Tree → Type 0
IsBad dir tree = (text : List ℕ) × (journal_in dir tree ≡ Some text) × ((entries : List Entry) → IsJournal entries text → ⊥)

-- Nothing happened, or a sync did, and R holds from there on.
abbrev pub FromSyncOn : (History → History → Type 0) → History → History → Type 0
FromSyncOn R old new = (new ≡ old) ⊎ R (next synced old) new

-- The directory has the files that it represented, on the disk, and is ready for a change.
pub record IsRecovered (dir : Names) (files : Files) (new : History) : Type 0 where
  pub files_are : files_below dir (tree_of new) ≡ files
  pub ready : IsReady dir new

-- The journal of a directory is carried out, if there is one.
pub record Recovers (dir : Names) (result : Result Bool JournalError) (old new : History) : Type 0 where
  -- Before the first sync nothing is written, and after it only paths below the directory are.
  pub sync_first : FromSyncOn (Touches (IsBelow dir)) old new
  -- From that sync on a crash leaves what represents the same files.
  pub keeps : (files : Files) → TreeStandsFor dir files (tree_of old) → FromSyncOn (EachSince (TreeStandsFor dir files)) old new
  -- The tree goes on to represent the same files.
  pub stands : (files : Files) → TreeStandsFor dir files (tree_of old) → TreeStandsFor dir files (tree_of new)
  -- After Ok the disk is settled.
  pub settled : OnOk result (IsSettled new)
  -- After Ok the directory has the files that it represented.
  pub done : OnOk result ((files : Files) → TreeStandsFor dir files (tree_of old) → IsRecovered dir files new)
  -- Ok tells whether a journal was there, and where none was, only the sync was made.
  pub found : IfOk result (λ found. found ≡ is_some (journal_in dir (tree_of old)))
  pub none : IfOk result (λ found. found ≡ false → new ≡ next synced old)
  -- After Ok the first sync was made, and since then only paths below the directory changed and a crash leaves what represents the same files.
  pub first_synced : OnOk result (Touches (IsBelow dir) (next synced old) new)
  pub each_since : OnOk result ((files : Files) → TreeStandsFor dir files (tree_of old) → EachSince (TreeStandsFor dir files) (next synced old) new)
  -- Ok comes only where the directory represented some files, unless a link is in the journal's place.
  pub stood : OnOk result (link_in (files_below dir (tree_of old) journal) ≡ None → (files : Files) × TreeStandsFor dir files (tree_of old))
  -- A bad journal is never carried out, and where it is answered, only the sync was made.
  pub good : OnOk result (IsBad dir (tree_of old) → ⊥)
  pub bad : (path : Names) → IsErrOf result (told.BadJournal path) → (path ≡ dir ++ journal) × IsBad dir (tree_of old) × (new ≡ next synced old)
  -- Elsewhere all stays as it was.
  pub others : ChangesOnlyBelow dir old new
