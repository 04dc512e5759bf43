-- Paths as texts.
use Rattle.std.proofs.Common.{◌≡◌, ◌<◌, ◌+◌, ℕ, List, [], ◌∷◌, ◌++◌, length, take, get_or, sym, ◌∙◌, ap, append_assoc}
use Rattle.std.specs.List.{join_with_byte}
use Rattle.std.proofs.lemmas.List.{take_more}
use Rattle.model_file.specs.Entries.{Path}
use Rattle.toml_values.proofs.Joins.{join_push}

-- The text of the names so far, with the next name after them.
pub join_more : (c : ℕ) (first text longer : List ℕ) (names : Path) (i : ℕ) (n d : List ℕ) → i < length names → text ≡ join_with_byte c (first ∷ take i names)
    → n ≡ get_or names i d → longer ≡ (text ++ c ∷ []) ++ n
    → longer ≡ join_with_byte c (first ∷ take (i + 1) names)
join_more c first text longer names i n d low is name more =
    more ∙ append_assoc text (c ∷ []) n ∙ ap (λ (l : List ℕ). l ++ c ∷ n) is ∙ sym (join_push c first (take i names) n)
    ∙ ap (λ (x : List ℕ). join_with_byte c (first ∷ take i names ++ x ∷ [])) name
    ∙ ap (λ (l : Path). join_with_byte c (first ∷ l)) (sym (take_more names i d low))
