-- The key at which a map breaks the prefix rule.
use Rattle.std.specs.Prelude.{ℕ, Bool, not, ◌&&◌, List, Option, find}
use Rattle.std.specs.List.{list_any}
use Rattle.std.specs.Ordering.{eq_by_cmp}
use Rattle.std.specs.FinMap.{FinMap, keys}
use Rattle.key_names.specs.Order.{key_cmp}
use Rattle.key_names.specs.Key.{is_prefix}

-- The second key begins with the first and is another.
abbrev pub is_proper_prefix : List (List ℕ) → List (List ℕ) → Bool
is_proper_prefix k q = is_prefix k q && not (eq_by_cmp key_cmp k q)

-- Some key of the map begins with this one and is another.
abbrev pub has_longer : {X : Type 0} → FinMap key_cmp X → List (List ℕ) → Bool
has_longer m k = list_any (is_proper_prefix k) (keys m)

-- The least key of the map that is a proper prefix of another of its keys.
abbrev pub conflict : {X : Type 0} → FinMap key_cmp X → Option (List (List ℕ))
conflict m = find (has_longer m) (keys m)
