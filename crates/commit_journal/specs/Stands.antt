-- What a directory represents, with the journal that may be in it.
use Rattle.std.specs.Prelude.{◌≡◌, ◌⊎◌, List, [], ◌∷◌, ◌++◌, codes, IsTrue, Some, None}
use Rattle.outside.specs.Names.{Names}
use Rattle.outside.specs.Tree.{file, Tree, node_at}
use Rattle.outside.specs.History.{History, tree_of, MayLeave, IsSettledAt}
use Rattle.outside.specs.Since.{EachSince, Touches}
use Rattle.commit_journal.specs.Entries.{Entry, is_batch}
use Rattle.commit_journal.specs.Files.{Files, files_below, IsBelow, with_node, laid}
use Rattle.commit_journal.specs.Journal.{journal_text}

-- The journal's path in its directory.
abbrev pub journal : Names
journal = codes "journal" ∷ []

-- The files without the journal.
abbrev pub without_journal : Files → Files
without_journal files = with_node files journal None

-- The journal of these entries is there.
pub record HasJournal (found : Files) (entries : List Entry) : Type 0 where
  pub there : found journal ≡ Some (file (journal_text entries))
  pub valid : IsTrue (is_batch entries)

-- What is found represents itself where no journal is there, and else the rest with the journal's entries laid over it.
abbrev pub StandsFor : Files → Files → Type 0
StandsFor found files = ((found journal ≡ None) × (files ≡ found))
    ⊎ ((entries : List Entry) × HasJournal found entries × (files ≡ laid entries (without_journal found)))

-- The directory of this tree represents these files.
abbrev pub TreeStandsFor : Names → Files → Tree → Type 0
TreeStandsFor dir files tree = StandsFor (files_below dir tree) files

-- A crash leaves what is below the directory as it is.
abbrev pub IsSettledBelow : Names → History → Type 0
IsSettledBelow dir history = (path : Names) → IsSettledAt history (dir ++ path)

-- No journal is in the directory, and a crash leaves what is below it as it is.
pub record IsReady (dir : Names) (history : History) : Type 0 where
  pub no_journal : files_below dir (tree_of history) journal ≡ None
  pub settled : IsSettledBelow dir history

-- Only paths below the directory change: each other path keeps its node, and a crash since the start leaves there what it might have left at the start.
pub record ChangesOnlyBelow (dir : Names) (old new : History) : Type 0 where
  pub touches : Touches (IsBelow dir) old new
  pub tree : (path : Names) → (IsBelow dir path → ⊥) → node_at (tree_of new) path ≡ node_at (tree_of old) path
  pub crash_states : (path : Names) → (IsBelow dir path → ⊥) → EachSince (λ crashed. MayLeave old path (node_at crashed path)) old new
