-- Finite maps, steps through their keys, and maps of maps.
use Rattle.std.specs.Prelude.{◌≡◌, ◌==◌, Bool, false, Option, Some, None, IsSome, unwrap_or, if◌then◌else◌}
use Rattle.std.specs.declared.cmp.Ordering.{Ordering}
use Rattle.std.specs.declared.cmp.Ordering.TheVariants.{Less}
use Rattle.std.specs.BTreeMap.Range.{IsLeBy}
use Rattle.std.specs.FinMap.{FinMap, get, insert, remove, empty, len}

-- The key is above the given one, or none is given.
abbrev pub IsPast : {K : Type 0} → (K → K → Ordering) → Option K → K → Type 0
IsPast R None k = Unit {0}
IsPast R (Some a) k = R a k ≡ Less

-- x is at k, the least of the keys past the given one.
pub record IsLeastAfter {K X : Type 0} {R : K → K → Ordering} (m : FinMap R X) (after : Option K) (k : K) (x : X) : Type 0 where
  pub stands : get m k ≡ Some x
  pub past : IsPast R after k
  pub least : (q : K) → IsPast R after q → IsSome (get m q) → IsLeBy R k q

-- k is the least of the keys past the given one.
pub record IsLeastKeyAfter {K X : Type 0} {R : K → K → Ordering} (m : FinMap R X) (after : Option K) (k : K) : Type 0 where
  pub stands : IsSome (get m k)
  pub past : IsPast R after k
  pub least : (q : K) → IsPast R after q → IsSome (get m q) → IsLeBy R k q

-- Nothing is past the given key.
pub record HasNoneAfter {K X : Type 0} {R : K → K → Ordering} (m : FinMap R X) (after : Option K) : Type 0 where
  pub none : (q : K) → IsPast R after q → get m q ≡ None

-- x is at k, the least of the keys from a on.
pub record IsLeastFrom {K X : Type 0} {R : K → K → Ordering} (m : FinMap R X) (a k : K) (x : X) : Type 0 where
  pub stands : get m k ≡ Some x
  pub from : IsLeBy R a k
  pub least : (q : K) → IsLeBy R a q → IsSome (get m q) → IsLeBy R k q

-- Nothing is from a on.
pub record HasNoneFrom {K X : Type 0} {R : K → K → Ordering} (m : FinMap R X) (a : K) : Type 0 where
  pub none : (q : K) → IsLeBy R a q → get m q ≡ None

-- x is at k, the greatest of the keys below a.
pub record IsLastBefore {K X : Type 0} {R : K → K → Ordering} (m : FinMap R X) (a k : K) (x : X) : Type 0 where
  pub stands : get m k ≡ Some x
  pub below : R k a ≡ Less
  pub greatest : (q : K) → R q a ≡ Less → IsSome (get m q) → IsLeBy R q k

-- Nothing is below a.
pub record HasNoneBefore {K X : Type 0} {R : K → K → Ordering} (m : FinMap R X) (a : K) : Type 0 where
  pub none : (q : K) → R q a ≡ Less → get m q ≡ None

-- The map has no key.
abbrev pub is_empty : {K X : Type 0} {R : K → K → Ordering} → FinMap R X → Bool
is_empty m = len m == 0

module _ {K N X : Type 0} {R : K → K → Ordering} {S : N → N → Ordering} where
  -- The map under a key, empty where there is none.
  abbrev pub inner : FinMap R (FinMap S X) → K → FinMap S X
  inner m k = unwrap_or (get m k) empty

  -- What is at a key and a name.
  abbrev pub value_at : FinMap R (FinMap S X) → K → N → Option X
  value_at m k n = get (inner m k) n

  -- With x at a key and a name.
  abbrev pub with_value : FinMap R (FinMap S X) → K → N → X → FinMap R (FinMap S X)
  with_value m k n x = insert m k (insert (inner m k) n x)

  -- With this map under a key, and without the key where the map is empty.
  abbrev pub with_inner : FinMap R (FinMap S X) → K → FinMap S X → FinMap R (FinMap S X)
  with_inner m k i = if is_empty i then remove m k else insert m k i

  -- With nothing at a key and a name.
  abbrev pub without_value : FinMap R (FinMap S X) → K → N → FinMap R (FinMap S X)
  without_value m k n = with_inner m k (remove (inner m k) n)

-- No map under a key is empty.
pub record IsFull {K N X : Type 0} {R : K → K → Ordering} {S : N → N → Ordering} (m : FinMap R (FinMap S X)) : Type 0 where
  pub each : (k : K) (i : FinMap S X) → get m k ≡ Some i → is_empty i ≡ false
