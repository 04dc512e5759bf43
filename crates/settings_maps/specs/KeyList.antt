-- Rising lists of keys, as lists and as sets.
use Rattle.std.specs.Prelude.{◌≡◌, ◌<◌, ◌≤◌, ◌+◌, ℕ, Bool, true, List, ◌∷◌, length, drop, not, filter}
use Rattle.std.specs.List.{list_any}
use Rattle.std.specs.Ordering.{eq_by_cmp}
use Rattle.std.specs.Set.{sorted_merge}
use Rattle.std.specs.List.Sorted.{IsStrictlySortedBy}
use Rattle.key_names.specs.Order.{key_cmp}

-- Each key is below those after it.
abbrev pub IsRising : List (List (List ℕ)) → Type 0
IsRising keys = IsStrictlySortedBy key_cmp keys

-- Whether the list has the key.
abbrev pub has_key : List (List (List ℕ)) → List (List ℕ) → Bool
has_key keys key = list_any (eq_by_cmp key_cmp key) keys

-- The list without a key.
abbrev pub without_key : List (List (List ℕ)) → List (List ℕ) → List (List (List ℕ))
without_key keys key = filter (λ q. not (eq_by_cmp key_cmp key q)) keys

-- The keys of the first list that the second lacks.
abbrev pub without_keys : List (List (List ℕ)) → List (List (List ℕ)) → List (List (List ℕ))
without_keys keys others = filter (λ k. not (has_key others k)) keys

-- The keys of either of two rising lists, rising.
abbrev pub joined : List (List (List ℕ)) → List (List (List ℕ)) → List (List (List ℕ))
joined one two = sorted_merge key_cmp true one two

-- The key is the first of both lists joined, and the rest is joined of what these numbers of keys leave of each.
pub record IsLeastOf (one two : List (List (List ℕ))) (key : List (List ℕ)) (first second : ℕ) : Type 0 where
  pub in_first : first ≤ length one
  pub in_second : second ≤ length two
  pub some : 0 < first + second
  pub least : joined one two ≡ key ∷ joined (drop first one) (drop second two)
