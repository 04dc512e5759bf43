-- Keys that begin with a path.
use Rattle.std.proofs.Common.{◌≡◌, ℕ, List, [], ◌∷◌, ◌++◌, true, refl, sym, ◌∙◌, ap, arith}
use Rattle.std.specs.Ordering.{eq_by_cmp}
use Rattle.std.proofs.lemmas.Bool.{and_parts}
use Rattle.std.proofs.lemmas.Map.Lookups.{exact_bytes}
use Rattle.std.proofs.lemmas.Map.Views.{tells_apart}
use Rattle.key_names.specs.Key.{is_prefix}
use Rattle.key_names.specs.Order.{bytes_cmp}

-- What a key has after a path that it begins with.
pub behind : (p k : List (List ℕ)) → is_prefix p k ≡ true → (rest : List (List ℕ)) × (k ≡ p ++ rest)
behind [] k begins = (k, refl)
behind (n ∷ p) [] begins = absurd (grind arith)
behind (n ∷ p) (m ∷ k) begins =
    let parts = and_parts (eq_by_cmp bytes_cmp n m) (is_prefix p k) begins in
    let one : n ≡ m = tells_apart exact_bytes n m parts.0 in
    let more = behind p k parts.1 in
    (more.0, ap (λ (x : List ℕ). x ∷ k) (sym one) ∙ ap (λ (l : List (List ℕ)). n ∷ l) more.1)
