-- The nearest list of a key, and the look-ups that find it.
use Rattle.std.specs.Prelude.{ℕ, zero, suc, ◌+◌, ◌-◌, min, max, Bool, ◌&&◌, nat_lt}
use Rattle.std.specs.Prelude.{List, [], length, filter, map, take, unwrap_or, is_some, sum_by, if◌then◌else◌}
use Rattle.std.specs.List.{flat_map}
use Rattle.std.specs.FinMap.{FinMap, get, entries}
use Rattle.key_names.specs.Key.{is_prefix}
use Rattle.key_names.specs.Order.{key_cmp}
use Rattle.metadata_links.specs.Rising.{rising}

-- Lists of services by key.
abbrev pub Lists : Type 0
Lists = FinMap key_cmp (List (List ℕ))

-- The greatest number from 1 to n that passes, and 0 where none does.
abbrev pub greatest : (ℕ → Bool) → ℕ → ℕ
greatest test zero = 0
greatest test (suc n) = if test (suc n) then suc n else greatest test n

-- Whether the first segments of the key, so many, have a list.
abbrev pub has_list : Lists → List (List ℕ) → ℕ → Bool
has_list index key len = is_some (get index (take len key))

-- The greatest length of a prefix of the key that has a list, and 0 where none has.
abbrev pub near_len : Lists → List (List ℕ) → ℕ
near_len index key = greatest (has_list index key) (length key)

-- The list of the first segments of the key, so many, and the empty list of none.
abbrev pub list_at : Lists → List (List ℕ) → ℕ → List (List ℕ)
list_at index key zero = []
list_at index key (suc n) = unwrap_or (get index (take (suc n) key)) []

-- The list of the longest prefix of the key that has one, else the empty list.
abbrev pub near : Lists → List (List ℕ) → List (List ℕ)
near index key = list_at index key (near_len index key)

-- One step for each length, from the key's own down to the greatest that has a list, or down to 1 where none has.
abbrev pub steps_to : Lists → List (List ℕ) → ℕ
steps_to index key = length key + 1 - max 1 (near_len index key)

-- The steps for all keys.
abbrev pub all_steps : Lists → List (List (List ℕ)) → ℕ
all_steps index keys = sum_by (λ key. steps_to index key) keys

-- A count after so many steps more: it stays at the greatest number of 64 bits.
abbrev pub stepped : ℕ → ℕ → ℕ
stepped count steps = max count (min (count + steps) 18446744073709551615)

-- The services that the nearest lists of the keys name, rising.
abbrev pub aff : Lists → List (List (List ℕ)) → List (List ℕ)
aff index keys = rising (flat_map (λ key. near index key) keys)

-- Whether the key is longer than the path and begins with it.
abbrev pub is_past : List (List ℕ) → List (List ℕ) → Bool
is_past path key = nat_lt (length path) (length key) && is_prefix path key

-- The keys of these entries that are longer than the path and begin with it.
abbrev pub keys_past : List (List ℕ) → List (List (List ℕ) × List (List ℕ)) → List (List (List ℕ))
keys_past path es = filter (is_past path) (map (λ e. e.0) es)

-- The keys that have a list, are longer than the path and begin with it, rising.
abbrev pub listed_below : Lists → List (List ℕ) → List (List (List ℕ))
listed_below index path = keys_past path (entries index)
