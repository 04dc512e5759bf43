-- The law of changes at once.
use Rattle.std.proofs.Common.{◌≡◌, ◌≢◌, ℕ, true, false, List, [], ◌∷◌, Option, Some, None, is_some, refl, ◌∙◌, ap}
use Rattle.std.specs.Prelude.{fold}
use Rattle.std.specs.FinMap.{FinMap, get, insert, keys}
use Rattle.key_names.specs.Order.{bytes_cmp, bytes_total, key_cmp}
use Rattle.json_trees.specs.declared.pending.Pending.{Pending}
use Rattle.settings_maps.specs.Maps.{inner, with_value}
use Rattle.settings_maps.proofs.NestedMaps.{get-insert_same}
use Rattle.settings_tree.specs.declared.held.Held.{Held}
use Rattle.pending_tx.specs.Transactions.{changed_keys, keys_of, last_of, patched, set_at_once}
use Rattle.pending_tx.proofs.OneChange.{one_change, one_change_keys, one_change_changed}
use Rattle.settings_machine.specs.World.{Key, Image, World}
use Rattle.settings_machine.specs.Typed.{Wanted, first_wanted}
use Rattle.settings_machine.specs.Requests.{CommitAndApply, KeyList, Said, is_success}
use Rattle.settings_machine.specs.Step.{Next, noting, with_held, patch_next, applied, commit_and_apply_next, set_next, answered}
use Rattle.settings_machine.specs.PlanLaws.{SetIsOneChange}

abbrev Pairs : Type 0
Pairs = List (Key × Pending)

abbrev Keyed : Type 0
Keyed = FinMap key_cmp Pending

abbrev Pendings : Type 0
Pendings = FinMap bytes_cmp (FinMap key_cmp Pending)

-- A transaction in which pairs are set is there.
set_there : (m : Pendings) (tx : List ℕ) (e : Key × Pending) (pairs : Pairs)
    → is_some (get (fold (λ n e. with_value n tx e.0 e.1) m (e ∷ pairs)) tx) ≡ true
set_there m tx e [] = ap is_some (get-insert_same bytes_total m tx (insert (inner m tx) e.0 e.1))
set_there m tx e (f ∷ pairs) = set_there (with_value m tx e.0 e.1) tx f pairs

-- So it is after a patch of some pairs.
some_there : (h : Held) (tx : List ℕ) (pairs : Pairs) → pairs ≢ [] → is_some (get (patched h tx pairs).pending tx) ≡ true
some_there h tx [] some = absurd (some refl)
some_there h tx (e ∷ pairs) some = set_there h.pending tx e pairs

module _ (I : Image) (W : World) (tx : List ℕ) (pairs : List (Key × Pending)) (new : get W.held.pending tx ≡ None) (some : pairs ≢ []) where
  -- The world and the reply after a change that leaves this held, of these keys, of which these were changed.
  abbrev changing : Held → List Key → List Key → Next
  changing held all changed = record { world = applied I (record W { held = held; job = noting W.job changed }); reply = Said (KeyList all) }

  committed_is : (o : Option Keyed) → is_some o ≡ true → commit_and_apply_next I (with_held W (patched W.held tx pairs)) tx o ≡ set_next I W pairs None
  committed_is None there = absurd (cc there)
  committed_is (Some p) there =
      let before : Held = patched W.held tx pairs in
      ap (λ (h : Held). changing h (keys_of before tx) (changed_keys before tx)) (one_change W.held tx pairs new)
      ∙ ap (λ (l : List Key). changing (set_at_once W.held pairs) l (changed_keys before tx)) (one_change_keys W.held tx pairs new)
      ∙ ap (λ (l : List Key). changing (set_at_once W.held pairs) (keys (last_of pairs)) l) (one_change_changed W.held tx pairs new)

  taken : (o : Option Wanted) → is_success (patch_next W tx pairs o).reply ≡ true
      → answered I (patch_next W tx pairs o).world (CommitAndApply tx) ≡ set_next I W pairs o
  taken None well = committed_is (get (patched W.held tx pairs).pending tx) (some_there W.held tx pairs some)
  taken (Some wanted) well = absurd (cc well)

  refused : (o : Option Wanted) → is_success (patch_next W tx pairs o).reply ≡ false → patch_next W tx pairs o ≡ set_next I W pairs o
  refused None bad = absurd (cc bad)
  refused (Some wanted) bad = refl

pub set_is_one_change : SetIsOneChange
set_is_one_change I W tx pairs new some = record {
  taken = taken I W tx pairs new some (first_wanted I.types pairs);
  refused = refused I W tx pairs new some (first_wanted I.types pairs);
}
