-- Names that are joined by a byte.
use Rattle.std.proofs.Common.{◌≡◌, ℕ, List, [], ◌∷◌, ◌++◌, append_assoc, refl, sym, ap, ◌∙◌}
use Rattle.std.specs.List.{join_with_byte}

-- One name more after the others.
pub join_push : (c : ℕ) (first : List ℕ) (names : List (List ℕ)) (n : List ℕ) → join_with_byte c (first ∷ names ++ n ∷ []) ≡ join_with_byte c (first ∷ names) ++
    c ∷ n
join_push c first [] n = refl
join_push c first (next ∷ names) n =
    ap (λ (l : List ℕ). first ++ c ∷ l) (join_push c next names n) ∙ sym (append_assoc first (c ∷ join_with_byte c (next ∷ names)) (c ∷ n))
