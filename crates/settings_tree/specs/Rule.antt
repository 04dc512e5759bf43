-- The prefix rule.
use Rattle.std.specs.Prelude.{◌≡◌, ◌≢◌, ℕ, List, IsSome, IsTrue}
use Rattle.std.specs.FinMap.{FinMap, get}
use Rattle.key_names.specs.Order.{key_cmp}
use Rattle.key_names.specs.Key.{is_prefix, overlaps}

-- No key of the map is a proper prefix of another.
pub record IsPrefixFree {X : Type 0} (m : FinMap key_cmp X) : Type 0 where
  pub alone : (k q : List (List ℕ)) → IsSome (get m k) → IsSome (get m q) → IsTrue (is_prefix k q) → k ≡ q

-- No other key of the map begins with k.
pub record HasNoLonger {X : Type 0} (m : FinMap key_cmp X) (k : List (List ℕ)) : Type 0 where
  pub alone : (q : List (List ℕ)) → IsSome (get m q) → IsTrue (is_prefix k q) → k ≡ q

-- k begins with no other key of the map.
pub record HasNoShorter {X : Type 0} (m : FinMap key_cmp X) (k : List (List ℕ)) : Type 0 where
  pub alone : (q : List (List ℕ)) → IsSome (get m q) → IsTrue (is_prefix q k) → q ≡ k

-- No other key of the map overlaps k.
pub record Fits {X : Type 0} (m : FinMap key_cmp X) (k : List (List ℕ)) : Type 0 where
  pub longer : HasNoLonger m k
  pub shorter : HasNoShorter m k

-- Another key of the map overlaps k.
pub record Clashes {X : Type 0} (m : FinMap key_cmp X) (k : List (List ℕ)) : Type 0 where
  pub key : List (List ℕ)
  pub stands : IsSome (get m key)
  pub overlap : IsTrue (overlaps k key)
  pub differs : key ≢ k
