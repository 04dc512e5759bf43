-- A transaction that is begun by the pairs and committed at once sets them at once.
use Rattle.std.proofs.Common.{◌≡◌, ℕ, List, [], ◌∷◌, Option, None, cond, unwrap_or, refl, ◌∙◌, ap}
use Rattle.std.specs.Prelude.{fold}
use Rattle.std.specs.Cmp.{eq_by_cmp_equiv}
use Rattle.std.specs.FinMap.{FinMap, empty, get, insert, remove, keys}
use Rattle.key_names.specs.Order.{bytes_cmp, bytes_total, bytes_cmp-IsAntisymmetric, key_cmp}
use Rattle.json_trees.specs.declared.pending.Pending.{Pending}
use Rattle.settings_maps.specs.Maps.{inner, with_value}
use Rattle.settings_maps.proofs.NestedMaps.{remove-absent, remove-insert}
use Rattle.settings_tree.specs.declared.held.Held.{Held}
use Rattle.pending_tx.specs.Transactions.{changed_in, changed_keys, committed, keys_of, last_of, overlaid, patched, pending_of, set_at_once}
use Rattle.pending_tx.proofs.Patches.{inner-set}

abbrev Pairs : Type 0
Pairs = List (List (List ℕ) × Pending)

abbrev Keyed : Type 0
Keyed = FinMap key_cmp Pending

abbrev Pendings : Type 0
Pendings = FinMap bytes_cmp (FinMap key_cmp Pending)

-- A transaction that is removed leaves nothing of what was set in it.
removed_set : (m : Pendings) (tx : List ℕ) (pairs : Pairs) → remove (fold (λ n e. with_value n tx e.0 e.1) m pairs) tx ≡ remove m tx
removed_set m tx [] = refl
removed_set m tx (e ∷ pairs) = removed_set (with_value m tx e.0 e.1) tx pairs ∙ remove-insert bytes_total bytes_cmp-IsAntisymmetric m tx _

module _ (h : Held) (tx : List ℕ) (pairs : List (List (List ℕ) × Pending)) (new : get h.pending tx ≡ None) where
  -- It has the last pair of each key.
  last_pending : pending_of (patched h tx pairs) tx ≡ last_of pairs
  last_pending = inner-set h.pending tx tx pairs
      ∙ ap (λ b. cond b (fold (λ m e. insert m e.0 e.1) (inner h.pending tx) pairs) (inner h.pending tx)) ((eq_by_cmp_equiv bytes_total).refl tx)
      ∙ ap (λ (o : Option Keyed). fold (λ m e. insert m e.0 e.1) (unwrap_or o empty) pairs) new

  pub one_change : committed (patched h tx pairs) tx ≡ set_at_once h pairs
  one_change = ap (λ (m : Keyed). record (overlaid h m) { pending = remove (patched h tx pairs).pending tx }) last_pending
      ∙ ap (λ (n : Pendings). record (set_at_once h pairs) { pending = n })
      (removed_set h.pending tx pairs ∙ remove-absent bytes_total bytes_cmp-IsAntisymmetric h.pending tx new)

  pub one_change_keys : keys_of (patched h tx pairs) tx ≡ keys (last_of pairs)
  one_change_keys = ap keys last_pending

  pub one_change_changed : changed_keys (patched h tx pairs) tx ≡ changed_in h (last_of pairs)
  one_change_changed = ap (changed_in h) last_pending
