-- Child programs that were run, and those that were asked.
use Rattle.std.specs.Prelude.{◌≡◌, ℕ, List, [], ◌∷◌, ◌++◌, map, String, string_bytes, Result, Ok, Err}
use Rattle.std.specs.declared.alloc.Global.{Global}
use Rattle.outside.specs.declared.spawner.Answer.{Answer}

-- The words as lists of bytes.
abbrev pub texts : List (String Global) → List (List ℕ)
texts words = map string_bytes words

-- A program that was run: its words and its exit status.
pub record Run : Type 0 where
  pub words : List (List ℕ)
  pub status : ℕ

-- A program that was asked: its words, its input, its exit status and its output.
pub record Question : Type 0 where
  pub words : List (List ℕ)
  pub input : List ℕ
  pub status : ℕ
  pub output : List ℕ

-- An answered run is added at the end, and a failed one adds nothing.
abbrev pub Runs : {E : Type 0} → List (List ℕ) → Result ℕ E → List Run → List Run → Type 0
Runs words (Ok status) old new = new ≡ old ++ record { words = words; status = status } ∷ []
Runs words (Err e) old new = new ≡ old

-- An answered question is added at the end, and a refused one adds nothing.
abbrev pub Asks : {E : Type 0} → List (List ℕ) → List ℕ → Result Answer E → List Question → List Question → Type 0
Asks words input (Ok answer) old new = new ≡ old ++ record { words = words; input = input; status = answer.status; output = answer.output.items } ∷ []
Asks words input (Err e) old new = new ≡ old
