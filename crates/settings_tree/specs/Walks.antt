-- Walks through the entries of a map, in the order of its keys.
use Rattle.std.specs.Prelude.{◌≡◌, ◌&&◌, ℕ, Bool, true, List, Option, Some, None, IsSome, IsTrue, filter}
use Rattle.std.specs.declared.cmp.Ordering.{Ordering}
use Rattle.std.specs.declared.cmp.Ordering.TheVariants.{Less}
use Rattle.std.specs.Ordering.{is_lt}
use Rattle.std.specs.BTreeMap.Range.{IsLeBy}
use Rattle.std.specs.FinMap.{FinMap, get, entries}
use Rattle.key_names.specs.Order.{key_cmp}
use Rattle.key_names.specs.Key.{is_prefix}
use Rattle.settings_maps.specs.Maps.{IsPast}

-- Whether the key is above the given one, or none is given.
abbrev pub is_past : {K : Type 0} → (K → K → Ordering) → Option K → K → Bool
is_past R None k = true
is_past R (Some a) k = is_lt (R a k)

-- The entries past the given key.
abbrev pub entries_past : {K X : Type 0} {R : K → K → Ordering} → FinMap R X → Option K → List (K × X)
entries_past {R = R} m after = filter (λ e. is_past R after e.0) (entries m)

-- The entries whose key begins with the prefix.
abbrev pub entries_below : {X : Type 0} → FinMap key_cmp X → List (List ℕ) → List (List (List ℕ) × X)
entries_below m prefix = filter (λ e. is_prefix prefix e.0) (entries m)

-- The entries past the given key whose key begins with the prefix.
abbrev pub entries_below_past : {X : Type 0} → FinMap key_cmp X → List (List ℕ) → Option (List (List ℕ)) → List (List (List ℕ) × X)
entries_below_past m prefix after = filter (λ e. is_prefix prefix e.0 && is_past key_cmp after e.0) (entries m)

-- x is at k, the least of the keys past the given one that begin with the prefix.
pub record IsLeastBelow {X : Type 0} (m : FinMap key_cmp X) (prefix : List (List ℕ)) (after : Option (List (List ℕ))) (k : List (List ℕ)) (x : X) : Type 0 where
  pub stands : get m k ≡ Some x
  pub past : IsPast key_cmp after k
  pub begins : IsTrue (is_prefix prefix k)
  pub least : (q : List (List ℕ)) → IsPast key_cmp after q → IsTrue (is_prefix prefix q) → IsSome (get m q) → IsLeBy key_cmp k q

-- There is nothing past the given key at a key that begins with the prefix.
pub record HasNoneBelow {X : Type 0} (m : FinMap key_cmp X) (prefix : List (List ℕ)) (after : Option (List (List ℕ))) : Type 0 where
  pub none : (q : List (List ℕ)) → IsPast key_cmp after q → IsTrue (is_prefix prefix q) → get m q ≡ None

-- There is nothing past the given key and below the end at a key that begins with the prefix.
pub record HasNoneUntil {X : Type 0} (m : FinMap key_cmp X) (prefix : List (List ℕ)) (after : Option (List (List ℕ))) (end : List (List ℕ)) : Type 0 where
  pub none : (q : List (List ℕ)) → IsPast key_cmp after q → key_cmp q end ≡ Less → IsTrue (is_prefix prefix q) → get m q ≡ None
