-- The text of a journal.
use Rattle.std.specs.Prelude.{◌≡◌, ℕ, List, [], ◌∷◌, ◌++◌, length, codes, Some, None, IsTrue}
use Rattle.std.specs.Fmt.{decimal}
use Rattle.outside.specs.PathText.{joined}
use Rattle.commit_journal.specs.Entries.{Entry, is_batch}

-- An entry is `remove`, a space, the path and a line feed; or `set`, a space, the path, a space, the length, a line feed, the bytes and a line feed.
abbrev pub entry_text : Entry → List ℕ
entry_text (path, None) = codes "remove " ++ joined path ++ 10 ∷ []
entry_text (path, Some bytes) = codes "set " ++ joined path ++ 32 ∷ decimal (length bytes) ++ 10 ∷ bytes ++ 10 ∷ []

-- A journal ends with the word `end` and a line feed.
abbrev pub end_text : List ℕ
end_text = codes "end" ++ 10 ∷ []

-- A journal is the texts of its entries and its end.
abbrev pub journal_text : List Entry → List ℕ
journal_text [] = end_text
journal_text (entry ∷ entries) = entry_text entry ++ journal_text entries

-- The text is the journal of this batch.
pub record IsJournal (entries : List Entry) (text : List ℕ) : Type 0 where
  pub text_is : text ≡ journal_text entries
  pub valid : IsTrue (is_batch entries)
