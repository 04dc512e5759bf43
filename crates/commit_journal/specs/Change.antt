-- What a change does to a disk, part by part and as a whole.
use Rattle.std.specs.Prelude.{◌≡◌, ◌⊎◌, List, Option, Result, Ok, Err, OnOk, OnErr}
use Rattle.outside.specs.Names.{Names}
use Rattle.outside.specs.Tree.{Node, Tree}
use Rattle.outside.specs.History.{History, next, replaced, synced, tree_of, IsSettled}
use Rattle.outside.specs.Since.{EachSince, GoesOn, IsAt, Touches}
use Rattle.commit_journal.specs.Entries.{Entry, Changes, IsNamed}
use Rattle.commit_journal.specs.Files.{Files, files_below, IsBelow, laid}
use Rattle.commit_journal.specs.Stands.{HasJournal, TreeStandsFor, IsSettledBelow, IsReady, without_journal, ChangesOnlyBelow}
use Rattle.commit_journal.specs.Install.{installed}

-- The node is put at the path, and after Ok it is on the disk.
abbrev pub PutsKept : {E : Type 0} → Names → Option Node → Result Unit E → History → History → Type 0
PutsKept path node (Ok done) old new = new ≡ next synced (next (replaced path node) old)
PutsKept path node (Err e) old new = (new ≡ old) ⊎ (new ≡ next (replaced path node) old)

-- The entries are put in their places, and after Ok they are on the disk.
abbrev pub InstallsKept : {E : Type 0} → List Entry → Result Unit E → History → History → Type 0
InstallsKept all (Ok done) old new = (mid : History) × GoesOn (IsAt (IsNamed all)) old mid × (tree_of mid ≡ installed all (tree_of old))
    × (new ≡ next synced mid)
InstallsKept all (Err e) old new = GoesOn (IsAt (IsNamed all)) old new

-- The files that the directory of a tree represents once the change's journal is there.
abbrev pub carried_over : Changes → History → Files
carried_over batch old = laid batch.entries (without_journal (files_below batch.dir (tree_of old)))

-- The journal of the change, which is on the disk, is carried out.
pub record CarriesOut {E : Type 0} (batch : Changes) (result : Result Unit E) (old new : History) : Type 0 where
  -- A crash since the start leaves what represents the files that the journal represented.
  pub any_moment : IsSettledBelow batch.dir old → HasJournal (files_below batch.dir (tree_of old)) batch.entries
      → EachSince (TreeStandsFor batch.dir (carried_over batch old)) old new
  -- After Ok these files are there, and on the disk.
  pub done : OnOk result ((files_below batch.dir (tree_of new) ≡ carried_over batch old) × IsSettled new)
  -- No path elsewhere is touched.
  pub others : Touches (IsBelow batch.dir) old new

-- ---- a change as a whole

-- The files before the change.
abbrev pub files_before : Changes → History → Files
files_before batch old = files_below batch.dir (tree_of old)

-- The files after the change: those before with its entries laid over them.
abbrev pub files_after : Changes → History → Files
files_after batch old = laid batch.entries (files_before batch old)

-- The tree represents the files before the change, or those after it.
abbrev pub StandsForEither : Changes → History → Tree → Type 0
StandsForEither batch old tree = TreeStandsFor batch.dir (files_before batch old) tree ⊎ TreeStandsFor batch.dir (files_after batch old) tree

-- The change is made: its files are there and on the disk, and the directory is ready for the next one.
pub record IsMade (batch : Changes) (old new : History) : Type 0 where
  pub files : files_below batch.dir (tree_of new) ≡ files_after batch old
  pub settled : IsSettled new
  pub ready : IsReady batch.dir new

-- No trace of the change is left: the tree represents the files before it, and so does all that a crash since the start might have left.
pub record IsNotBegun (batch : Changes) (old new : History) : Type 0 where
  pub tree : TreeStandsFor batch.dir (files_before batch old) (tree_of new)
  pub crash_states : EachSince (TreeStandsFor batch.dir (files_before batch old)) old new

-- The files of the batch are changed, all or none.
pub record Commits {E : Type 0} (batch : Changes) (result : Result Unit E) (old new : History) : Type 0 where
  -- A crash since the start leaves what represents the files before the change or after it.
  pub any_moment : IsReady batch.dir old → EachSince (StandsForEither batch old) old new
  -- After Ok the change is made.
  pub done : OnOk result (IsReady batch.dir old → IsMade batch old new)
  -- After an error the tree represents the files after the change, or the change is not begun.
  pub failed : OnErr result (IsReady batch.dir old → TreeStandsFor batch.dir (files_after batch old) (tree_of new) ⊎ IsNotBegun batch old new)
  -- Elsewhere all stays as it was.
  pub others : ChangesOnlyBelow batch.dir old new
