-- What the calls read of a transaction, and what they make of what is held.
use Rattle.std.specs.Prelude.{◌≡◌, ◌||◌, ℕ, Bool, true, not, List, Option, Some, None, IsTrue, All, is_some, filter, fold, map}
use Rattle.std.specs.List.{flat_map, list_any}
use Rattle.std.specs.FinMap.{FinMap, empty, get, insert, remove, entries, keys}
use Rattle.key_names.specs.Order.{bytes_cmp, key_cmp}
use Rattle.key_names.specs.Key.{is_prefix}
use Rattle.json_trees.specs.Equal.{scalar_eq}
use Rattle.json_trees.specs.declared.scalar.Scalar.{Scalar}
use Rattle.json_trees.specs.declared.pending.Pending.{Pending}
use Rattle.json_trees.specs.declared.pending.Pending.TheVariants.{Put, Gone}
use Rattle.settings_maps.specs.Maps.{inner, value_at, with_value, without_value}
use Rattle.settings_tree.specs.Rule.{Fits, IsPrefixFree}
use Rattle.settings_tree.specs.declared.entry.Owed.{Owed}
use Rattle.settings_tree.specs.declared.entry.Owed.TheVariants as owed
use Rattle.settings_tree.specs.declared.held.Held.{Held}
use Rattle.settings_maps.specs.KeyList.{has_key, joined}
use Rattle.settings_tree.specs.Over.{laid_over}

-- What the transaction has pending, by key; nothing where there is no such transaction.
abbrev pub pending_of : Held → List ℕ → FinMap key_cmp Pending
pending_of h tx = inner h.pending tx

-- The keys for which the transaction has something pending, rising.
abbrev pub keys_of : Held → List ℕ → List (List (List ℕ))
keys_of h tx = keys (pending_of h tx)

-- Whether a live value is missing or another than the pending one, or is there where a removal is pending.
abbrev pub differs : Pending → Option Scalar → Bool
differs (Put v) None = true
differs (Put v) (Some live) = not (scalar_eq v live)
differs Gone live = is_some live

-- What of these values and removals differs from the live values, rising by key.
abbrev pub changes_in : Held → FinMap key_cmp Pending → List (List (List ℕ) × Pending)
changes_in h m = filter (λ e. differs e.1 (get h.live.values e.0)) (entries m)

-- The keys of what differs, rising.
abbrev pub changed_in : Held → FinMap key_cmp Pending → List (List (List ℕ))
changed_in h m = map (λ e. e.0) (changes_in h m)

-- What the transaction has pending that differs from the live values, rising by key.
abbrev pub changes_of : Held → List ℕ → List (List (List ℕ) × Pending)
changes_of h tx = changes_in h (pending_of h tx)

-- The keys of what differs, rising.
abbrev pub changed_keys : Held → List ℕ → List (List (List ℕ))
changed_keys h tx = changed_in h (pending_of h tx)

-- The owed keys with these keys owed too; all stay all.
abbrev pub owing : Owed → List (List (List ℕ)) → Owed
owing owed.All keys = owed.All
owing (owed.Keys before) keys = owed.Keys (joined before keys)

-- What is held once values and removals are laid over the live values: each value is put there and each removed key taken away,
-- all their keys are strong, and the keys of what differed are owed.
abbrev pub overlaid : Held → FinMap key_cmp Pending → Held
overlaid h m = record h { live = laid_over h.live m; owed = owing h.owed (changed_in h m) }

-- What is held after a commit: what the transaction has pending is laid over the live values, and the transaction is gone.
abbrev pub committed : Held → List ℕ → Held
committed h tx = record (overlaid h (pending_of h tx)) { pending = remove h.pending tx }

-- What is held after a transaction is dropped.
abbrev pub dropped : Held → List ℕ → Held
dropped h tx = record h { pending = remove h.pending tx }

-- What is held after the pairs are laid over the transaction, one after another.
abbrev pub patched : Held → List ℕ → List (List (List ℕ) × Pending) → Held
patched h tx pairs = record h { pending = fold (λ m e. with_value m tx e.0 e.1) h.pending pairs }

-- What the last pair of each key gives it.
abbrev pub last_of : List (List (List ℕ) × Pending) → FinMap key_cmp Pending
last_of pairs = fold (λ m e. insert m e.0 e.1) empty pairs

-- What is held after the pairs are laid over the live values at once; of several pairs of a key the last one counts.
abbrev pub set_at_once : Held → List (List (List ℕ) × Pending) → Held
set_at_once h pairs = overlaid h (last_of pairs)

-- The removal of each of these keys.
abbrev pub removals : List (List (List ℕ)) → List (List (List ℕ) × Pending)
removals ks = map (λ k. (k, Gone)) ks

-- These keys, each once and rising.
abbrev pub rising : List (List (List ℕ)) → List (List (List ℕ))
rising ks = keys (last_of (removals ks))

-- The keys of these for which something is pending, each with the name of its transaction.
abbrev pub pending_at : FinMap bytes_cmp (FinMap key_cmp Pending) → List (List (List ℕ)) → List (List ℕ × List (List ℕ))
pending_at m ks = flat_map (λ t. map (λ k. (t.0, k)) (filter (has_key ks) (keys t.1))) (entries m)

-- What is held once these keys are forgotten: they are removed at once, and nothing is pending for them any more.
abbrev pub forgotten : Held → List (List (List ℕ)) → Held
forgotten h ks = record (set_at_once h (removals ks)) { pending = fold (λ m p. without_value m p.0 p.1) h.pending (pending_at h.pending ks) }

-- Whether the key has a value, live or pending.
abbrev pub is_held : Held → List (List ℕ) → Bool
is_held h k = is_some (get h.live.values k) || list_any (λ t. is_some (get t.1 k)) (entries h.pending)

-- Each key that is set overlaps no other live key, and no other that is set.
pub record FitOver (h : Held) (m : FinMap key_cmp Pending) : Type 0 where
  pub fits : (k : List (List ℕ)) (v : Scalar) → get m k ≡ Some (Put v) → Fits h.live.values k
  pub free : IsPrefixFree m

-- Each key that the transaction sets overlaps no other live key.
pub record FitLive (h : Held) (tx : List ℕ) : Type 0 where
  pub fits : (k : List (List ℕ)) (v : Scalar) → value_at h.pending tx k ≡ Some (Put v) → Fits h.live.values k

-- The keys of the pairs overlap no other key of the map, and no other of the pairs.
pub record FitPairs (m : FinMap key_cmp Pending) (pairs : List (List (List ℕ) × Pending)) : Type 0 where
  pub fit : All (λ e. Fits m e.0) pairs
  pub apart : All (λ e. All (λ f. IsTrue (is_prefix e.0 f.0) → e.0 ≡ f.0) pairs) pairs
