-- What a step does to the entries of a map: to live settings, and to what a transaction has pending.
use Rattle.std.specs.Prelude.{ℕ, not, List, fold}
use Rattle.std.specs.Option.{option_map_or}
use Rattle.std.specs.FinMap.{FinMap, empty, entries, get, insert, remove, retain_keys}
use Rattle.std.specs.declared.cmp.Ordering.{Ordering}
use Rattle.key_names.specs.Order.{key_cmp}
use Rattle.key_names.specs.Key.{is_prefix}
use Rattle.migrate_helpers.specs.Step.{Step}
use Rattle.migrate_helpers.specs.Step.{Stays, Removes, RemovesBelow, Replaces, Renames, RemovesNames, ReplacesName, RemovesWeak}

-- The map with what f makes of each key and its value in place of the value.
abbrev pub mapped : {K X Y : Type 0} {R : K → K → Ordering} → (K → X → Y) → FinMap R X → FinMap R Y
mapped f m = fold (λ n e. insert n e.0 (f e.0 e.1)) empty (entries m)

module _ {X : Type 0} where
  -- The map without these keys.
  abbrev pub removed : FinMap key_cmp X → List (List (List ℕ)) → FinMap key_cmp X
  removed m keys = fold remove m keys

  -- The map without the keys that begin with the prefix.
  abbrev pub without_prefix : FinMap key_cmp X → List (List ℕ) → FinMap key_cmp X
  without_prefix m prefix = retain_keys m (λ k. not (is_prefix prefix k))

  -- The map without the keys that begin with one of these prefixes.
  abbrev pub removed_below : FinMap key_cmp X → List (List (List ℕ)) → FinMap key_cmp X
  removed_below m prefixes = fold without_prefix m prefixes

  -- The map with what f makes of what is at the key, if something is.
  abbrev pub changed : (X → X) → FinMap key_cmp X → List (List ℕ) → FinMap key_cmp X
  changed f m k = option_map_or (λ x. insert m k (f x)) (get m k) m

  -- The map with what is at the first key of the pair, if something is, at the second key and
  -- nowhere else: landed there, over what was there.
  abbrev pub moved : (List (List ℕ) → X → X) → FinMap key_cmp X → List (List ℕ) × List (List ℕ) → FinMap key_cmp X
  moved land m pair = option_map_or (λ x. insert (remove m pair.0) pair.1 (land pair.1 x)) (get m pair.0) m

  -- The map with one pair after another moved.
  abbrev pub renamed : (List (List ℕ) → X → X) → FinMap key_cmp X → List (List (List ℕ) × List (List ℕ)) → FinMap key_cmp X
  renamed land m pairs = fold (moved land) m pairs

  -- The map after the step, where an entry lands at a new key and has a text of it replaced as given.
  abbrev pub edited : (List (List ℕ) → X → X) → (List ℕ → List ℕ → X → X) → Step → FinMap key_cmp X → FinMap key_cmp X
  edited land replace Stays m = m
  edited land replace (Removes keys) m = removed m keys
  edited land replace (RemovesBelow prefixes) m = removed_below m prefixes
  edited land replace (Replaces key old new) m = changed (replace old new) m key
  edited land replace (Renames pairs) m = renamed land m pairs
  edited land replace (RemovesNames key names) m = m
  edited land replace (ReplacesName key name old new) m = m
  edited land replace RemovesWeak m = m
