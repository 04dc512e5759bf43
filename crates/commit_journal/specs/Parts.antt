-- The parts of a journal's text.
use Rattle.std.specs.Prelude.{◌≡◌, ◌≢◌, ℕ, ◌^◌, ◌<◌, List, [], ◌∷◌, ◌++◌, length, codes, IsTrue, Bool, false, ◌==◌, ◌&&◌, not}
use Rattle.std.specs.Fmt.{decimal}
use Rattle.std.specs.List.{list_all}
use Rattle.outside.specs.Names.{Names}
use Rattle.outside.specs.PathText.{joined}
use Rattle.commit_journal.specs.Entries.{Entry, is_entry, is_entry_path}
use Rattle.commit_journal.specs.Journal.{entry_text}

-- The byte is not in the list.
abbrev pub Lacks : ℕ → List ℕ → Type 0
Lacks byte [] = Unit {0}
Lacks byte (x ∷ xs) = (x ≢ byte) × Lacks byte xs

-- The text is cut around its first such byte.
pub record IsCut (byte : ℕ) (text first rest : List ℕ) : Type 0 where
  pub text_is : text ≡ first ++ byte ∷ rest
  pub lacks : Lacks byte first

-- The text begins with the length of these bytes, a line feed, the bytes and a line feed.
pub record IsBody (text bytes rest : List ℕ) : Type 0 where
  pub text_is : text ≡ decimal (length bytes) ++ 10 ∷ (bytes ++ 10 ∷ rest)
  pub fits : length bytes < 2 ^ 64

-- The text begins with a line that removes a path.
pub record IsRemoval (text path rest : List ℕ) : Type 0 where
  pub text_is : text ≡ codes "remove " ++ (path ++ 10 ∷ rest)
  pub lacks : Lacks 10 path

-- The text begins with the lines that set a path to these bytes.
pub record IsWriting (text path bytes rest : List ℕ) : Type 0 where
  pub text_is : text ≡ codes "set " ++ (path ++ 32 ∷ (decimal (length bytes) ++ 10 ∷ (bytes ++ 10 ∷ rest)))
  pub fits : length bytes < 2 ^ 64
  pub lacks : Lacks 32 path

-- The digits have no plus before them, and no zero before other digits.
abbrev pub is_plain : List ℕ → Bool
is_plain [] = false
is_plain (a ∷ []) = not (a == 43)
is_plain (a ∷ b ∷ rest) = not (a == 43) && not (a == 48)

-- The digits are those of this number, which fits a `usize`.
pub record IsNumber (digits : List ℕ) (n : ℕ) : Type 0 where
  pub digits_are : digits ≡ decimal n
  pub fits : n < 2 ^ 64

-- The text is the printed path of an entry.
pub record IsPathText (path : Names) (text : List ℕ) : Type 0 where
  pub valid : IsTrue (is_entry_path path)
  pub text_is : text ≡ joined path

-- The text begins with this entry, and goes on with the rest.
pub record HasEntry (text : List ℕ) (entry : Entry) (rest : List ℕ) : Type 0 where
  pub valid : IsTrue (is_entry entry)
  pub text_is : text ≡ entry_text entry ++ rest

-- The text begins with no entry.
abbrev pub HasNoEntry : List ℕ → Type 0
HasNoEntry text = (entry : Entry) (rest : List ℕ) → HasEntry text entry rest → ⊥

-- The entry that the text begins with is put after the others.
pub record ReadsOne (text : List ℕ) (old new : List Entry) (rest : List ℕ) : Type 0 where
  pub entry : Entry
  pub read : HasEntry text entry rest
  pub new_is : new ≡ old ++ entry ∷ []

-- The texts of the entries, one after another.
abbrev pub texts_of : List Entry → List ℕ
texts_of [] = []
texts_of (entry ∷ entries) = entry_text entry ++ texts_of entries

-- These entries are read, and the rest is left.
pub record AreRead (text : List ℕ) (entries : List Entry) (rest : List ℕ) : Type 0 where
  pub text_is : text ≡ texts_of entries ++ rest
  pub valid : IsTrue (list_all is_entry entries)
