-- The words of a command. The byte 32 is a space.
use Rattle.std.specs.Prelude.{ℕ, Bool, ◌==◌, not, nat_lt, List, length, filter}
use Rattle.std.specs.List.{list_any, slice_split}

-- The words between runs of spaces.
abbrev pub words_in : List ℕ → List (List ℕ)
words_in text = filter (λ word. nat_lt 0 (length word)) (slice_split (λ b. b == 32) text)

-- Whether there is a word: a byte that is no space.
abbrev pub has_word : List ℕ → Bool
has_word text = list_any (λ b. not (b == 32)) text
