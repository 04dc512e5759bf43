-- The words of a text.
use Rattle.std.specs.Prelude.{ℕ, ◌==◌, nat_lt, List, length, filter}
use Rattle.std.specs.List.{slice_split}

-- The parts of a text between which its spaces are.
abbrev pub parts_of : List ℕ → List (List ℕ)
parts_of text = slice_split (λ b. b == 32) text

-- Those of them that are not empty.
abbrev pub words_among : List (List ℕ) → List (List ℕ)
words_among parts = filter (λ part. nat_lt 0 (length part)) parts

-- The words of a text are what is between its spaces.
abbrev pub words_in : List ℕ → List (List ℕ)
words_in text = words_among (parts_of text)
