-- The nearest lists of keys.
use Rattle.std.proofs.Common.{arith, ◌≡◌, ◌<◌, ◌≤◌, ℕ, zero, suc, List, [], ◌∷◌, Bool, true, false, cond, ◌||◌, filter, map, nat_lt}
use Rattle.std.proofs.Common.{if◌then◌else◌, Option, Some, None, refl, sym, ◌∙◌, ap}
use Rattle.std.specs.Ordering.{eq_by_cmp}
use Rattle.std.proofs.lemmas.Bool.{lt-ltb}
use Rattle.std.specs.FinMap.{FinMap, entries, find, from_entries, get-from_entries, same_map}
use Rattle.key_names.specs.Order.{key_cmp, key_total, key_cmp-IsAntisymmetric}
use Rattle.settings_maps.specs.KeyList.{has_key}
use Rattle.metadata_links.specs.Nearest.{near, near_len, greatest, has_list}
use Rattle.settings_machine.specs.World.{Key, Image}
use Rattle.settings_machine.specs.Answers.{marked, nearest_lists}
use Rattle.api_core.specs.Gathered.{Lists, there, gathered, has_near, near_entry}
use Rattle.api_core.proofs.Gathering.{get-gathered}

-- ---- one key

positive : (n : ℕ) → 0 < n → nat_lt 0 n ≡ true
positive n low = lt-ltb 0 n low

module _ (index : Lists) (key : Key) where
  at_none : (len : ℕ) → len ≤ 0 → nat_lt 0 (greatest (has_list index key) len) ≡ false
  at_none zero low = refl
  at_none (suc n) low = absurd (omega (arith, low))

  -- Found at a length, it is the nearest,
  pub found_is : (len : ℕ) (list : List (List ℕ)) → 0 < len → list ≡ near index key → near_len index key ≡ len
      → Some list ≡ (if nat_lt 0 (near_len index key) then Some (near index key) else None)
  found_is len list low same is = ap (λ (l : List (List ℕ)). Some l) same
      ∙ sym (ap (λ b. if b then Some (near index key) else None) (ap (nat_lt 0) is ∙ positive len low))

  -- and found at none, there is none.
  pub none_is : (len : ℕ) → len ≤ 0 → greatest (has_list index key) len ≡ near_len index key
      → None ≡ (if nat_lt 0 (near_len index key) then Some (near index key) else None)
  none_is len low is = sym (ap (λ b. if b then Some (near index key) else None) (ap (nat_lt 0) (sym is) ∙ at_none len low))

-- ---- keys, each once

find_marked : (keys : List Key) (q : Key) → find key_cmp q (marked keys) ≡ cond (has_key keys q) there None
find_marked [] q = refl
find_marked (key ∷ keys) q = ap (λ (o : Option (Unit {0})). cond (eq_by_cmp key_cmp q key) there o) (find_marked keys q)
    ∙ by (eq_by_cmp key_cmp q key) (has_key keys q) where
      by : (b c : Bool) → cond b there (cond c there None) ≡ cond (b || c) there None
      by true c = refl
      by false c = refl

each_once : (keys : List Key) → gathered (λ key. there) keys ≡ from_entries {R = key_cmp} (marked keys)
each_once keys = same_map key_total key_cmp-IsAntisymmetric (gathered (λ key. there) keys) (from_entries {R = key_cmp} (marked keys))
    (λ q. get-gathered (λ key. there) q keys ∙ sym (get-from_entries key_total (marked keys) q ∙ find_marked keys q))

-- ---- all of them

keys_first : (index : Lists) (es : List (Key × Unit {0})) → map (near_entry index) (filter (has_near index) es)
    ≡ map (λ key. (key, near index key)) (filter (λ key. nat_lt 0 (near_len index key)) (map (λ e. e.0) es))
keys_first index [] = refl
keys_first index (e ∷ es) = by (nat_lt 0 (near_len index e.0)) (keys_first index es) where
  by : (b : Bool) → map (near_entry index) (filter (has_near index) es)
      ≡ map (λ key. (key, near index key)) (filter (λ key. nat_lt 0 (near_len index key)) (map (λ e. e.0) es))
      → map (near_entry index) (cond b (e ∷ filter (has_near index) es) (filter (has_near index) es))
      ≡ map (λ key. (key, near index key)) (cond b (e.0 ∷ filter (λ key. nat_lt 0 (near_len index key)) (map (λ e. e.0) es))
      (filter (λ key. nat_lt 0 (near_len index key)) (map (λ e. e.0) es)))
  by true rest = ap (λ (l : List (Key × List (List ℕ))). (e.0, near index e.0) ∷ l) rest
  by false rest = rest

-- The lists of the keys, each once, are those of the machine.
pub lists_are : (I : Image) (index : Lists) → I.manifest.index ≡ index → (keys : List Key) (distinct : FinMap key_cmp (Unit {0}))
    → distinct ≡ gathered (λ key. there) keys
    → (lists : List (Key × List (List ℕ))) → lists ≡ map (near_entry index) (filter (has_near index) (entries distinct)) → lists ≡ nearest_lists I keys
lists_are I index is keys distinct once lists all = all ∙ ap (λ m. map (near_entry index) (filter (has_near index) (entries m))) (once ∙ each_once keys)
    ∙ keys_first index (entries (from_entries {R = key_cmp} (marked keys)))
    ∙ ap (λ (m : Lists). map (λ key. (key, near m key)) (filter (λ key. nat_lt 0 (near_len m key)) (map (λ e. e.0)
    (entries (from_entries {R = key_cmp} (marked keys)))))) (sym is)
