-- Laws of journals and of what a directory represents.
use Rattle.std.specs.Prelude.{◌≡◌, ℕ, List, [], ◌++◌}
use Rattle.commit_journal.specs.Entries.{Entry}
use Rattle.commit_journal.specs.Files.{Files}
use Rattle.commit_journal.specs.Journal.{IsJournal}
use Rattle.commit_journal.specs.Stands.{StandsFor}

-- A directory represents at most one choice of files.
abbrev pub StandsForOne : Type 0
StandsForOne = (found one other : Files) → StandsFor found one → StandsFor found other → one ≡ other

-- A text is the journal of at most one batch.
abbrev pub IsOfOneBatch : Type 0
IsOfOneBatch = (one other : List Entry) (text : List ℕ) → IsJournal one text → IsJournal other text → one ≡ other

-- What goes on after a journal is no journal, so no journal is a proper prefix of another.
abbrev pub HasNoJournalPrefix : Type 0
HasNoJournalPrefix = (one other : List Entry) (text rest : List ℕ) → IsJournal one text → IsJournal other (text ++ rest) → rest ≡ []
