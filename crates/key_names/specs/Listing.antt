-- Texts that list keys, said of whole texts: keys between commas outside quotes. The byte 44 is a comma, 34 a quote.
use Rattle.std.specs.Prelude.{◌≡◌, ◌≢◌, ◌%◌, ◌==◌, ℕ, Bool, false, IsTrue, List, [], ◌++◌, take, slice_index, count_by, EachIndex}
use Rattle.key_names.specs.declared.key_error.KeyFault.{KeyFault}
use Rattle.key_names.specs.Joined.{Ends, Joins, FaultBehind}
use Rattle.key_names.specs.Spelling.{SpellsKey}
use Rattle.key_names.specs.Faults.{Refuses}

-- The text is made of a spelling of each key, joined by commas.
abbrev pub Lists : List ℕ → List (List (List ℕ)) → Type 0
Lists = Joins SpellsKey 44

-- Each quote that opens in the text is closed: it has an even number of quotes.
abbrev pub is_closed : List ℕ → Bool
is_closed text = count_by (λ b. b == 34) text % 2 == 0

-- The piece is what is in this text before the first comma outside quotes: each comma of the piece
-- is inside quotes, and after it the text ends or, where its quotes are closed, a comma comes.
pub record IsPiece (text piece : List ℕ) : Type 0 where
  pub rest : List ℕ
  pub text_is : text ≡ piece ++ rest
  pub commas : EachIndex piece (λ i. slice_index piece i ≡ 44 → is_closed (take i piece) ≡ false)
  pub ends : Ends 44 rest
  pub closed : rest ≢ [] → IsTrue (is_closed piece)

-- The piece at the head of this text is no key, with this fault.
pub record PieceFault (text : List ℕ) (kind : KeyFault) (offset : ℕ) : Type 0 where
  pub piece : List ℕ
  pub is_piece : IsPiece text piece
  pub fault : Refuses piece kind offset

-- After spellings of some keys, with a comma after each, the piece is no key, with this fault.
abbrev pub RefusesList : List ℕ → KeyFault → ℕ → Type 0
RefusesList = FaultBehind SpellsKey 44 PieceFault
