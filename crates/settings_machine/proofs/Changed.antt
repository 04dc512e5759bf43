-- Where values and removals change the live values.
use Rattle.std.proofs.Common.{◌≡◌, ◌≢◌, ℕ, Bool, true, false, not, List, [], Option, Some, None, refl, sym, ◌∙◌, ap}
use Rattle.std.specs.FinMap.{FinMap, get, entries}
use Rattle.key_names.specs.Order.{key_cmp, key_cmp-IsAntisymmetric}
use Rattle.json_trees.specs.EqualLaws.{scalar_eq-Decides}
use Rattle.json_trees.specs.declared.pending.Pending.{Pending}
use Rattle.json_trees.specs.declared.pending.Pending.TheVariants.{Put, Gone}
use Rattle.json_trees.specs.declared.scalar.Scalar.{Scalar}
use Rattle.settings_maps.specs.KeyList.{has_key}
use Rattle.settings_tree.specs.Content.{Contents}
use Rattle.settings_tree.specs.declared.held.Held.{Held}
use Rattle.pending_tx.specs.Transactions.{differs, changes_in, changed_in, changed_keys, last_of, overlaid, pending_of}
use Rattle.settings_tree.proofs.Over.{over, get-laid_over}
use Rattle.settings_machine.specs.World.{Key, Among, Image, World}
use Rattle.settings_machine.specs.Typed.{Wanted, first_wanted}
use Rattle.settings_machine.specs.Requests.{Request, Root, OsNames, Settings, SettingsAt, SettingsBelow}
use Rattle.settings_machine.specs.Requests.{Patch, Services, ConfigurationFiles, Affected, Pends, DropTx, TxList}
use Rattle.settings_machine.specs.Requests.{Commit, Apply, CommitAndApply, JobNow, Set, ApplyAll, Guarded, Plan, PlanFile, Store, Verify, is_success}
use Rattle.settings_machine.specs.Step.{patch_next, commit_next, commit_and_apply_next, set_next, changed_by, answered}
use Rattle.settings_machine.specs.PlanLaws.{DifferAt, is_guarded}
use Rattle.settings_machine.proofs.Elements.{among_filter, map_among, entry_stands, key_among, key_itself}
use Rattle.settings_machine.proofs.Coverage.{DifferOnlyAt}
use Rattle.settings_machine.proofs.Paying.{overlaid_differs}

-- What differs from a live value leaves another one.
not_kept : (p : Pending) (l : Option Scalar) → differs p l ≡ true → l ≢ over (Some p) l
not_kept (Put v) None is same = absurd (cc same)
not_kept (Put v) (Some l) is same =
    let one : v ≡ l = cc same in
    absurd (cc (is, ap not ((scalar_eq-Decides v l).1 one)))
not_kept Gone None is same = absurd (cc is)
not_kept Gone (Some l) is same = absurd (cc same)

-- Contents differ nowhere from themselves.
pub none_changed : (live : Contents) → DifferAt [] live live
none_changed live = record { each = λ key at. absurd at; alone = λ key none. refl }

module _ (h : Held) (m : FinMap key_cmp Pending) where
  -- What is in the map for a key that is changed differs from the live value.
  entry_of : (e : List (List ℕ) × Pending) (q : Key) → q ≡ e.0 → Among (entries m) e → differs e.1 (get h.live.values e.0) ≡ true
      → get h.live.values q ≢ get (overlaid h m).live.values q
  entry_of e q key at is same =
      let found : get m e.0 ≡ Some e.1 = entry_stands key_cmp-IsAntisymmetric m e.0 e.1 (key_itself e.0) at in
      not_kept e.1 (get h.live.values e.0) is
      (ap (get h.live.values) (sym key) ∙ same ∙ ap (get (overlaid h m).live.values) key ∙ get-laid_over h.live m e.0
      ∙ ap (λ (o : Option Pending). over o (get h.live.values e.0)) found)

  -- The values differ at the keys of what differs, and at no others.
  pub overlaid_changed : DifferAt (changed_in h m) h.live (overlaid h m).live
  overlaid_changed = record {
    each = λ q at.
        let e = map_among (λ (x : Key × Pending). x.0) (changes_in h m) q at in
        let t = among_filter (λ (x : Key × Pending). differs x.1 (get h.live.values x.0)) (entries m) e.0 e.1 in
        entry_of e.0 q e.2 t.0 t.1;
    alone = λ q none.
        let d : DifferOnlyAt (changed_in h m) h.live (overlaid h m).live = overlaid_differs h m in
        d.same q (by q none (has_key (changed_in h m) q) refl);
  } where
    by : (q : Key) → (Among (changed_in h m) q → ⊥) → (b : Bool) → has_key (changed_in h m) q ≡ b → b ≡ false
    by q none true has = absurd (none (key_among (changed_in h m) q has))
    by q none false has = refl

-- ---- by a request

module _ (I : Image) (W : World) where
  patch_changed : (tx : List ℕ) (pairs : List (Key × Pending)) (o : Option Wanted) → DifferAt [] W.held.live (patch_next W tx pairs o).world.held.live
  patch_changed tx pairs None = none_changed W.held.live
  patch_changed tx pairs (Some wanted) = none_changed W.held.live

  commit_changed : (tx : List ℕ) (o : Option (FinMap key_cmp Pending)) → is_success (commit_next W tx o).reply ≡ true
      → DifferAt (changed_keys W.held tx) W.held.live (commit_next W tx o).world.held.live
  commit_changed tx None well = absurd (cc well)
  commit_changed tx (Some p) well = overlaid_changed W.held (pending_of W.held tx)

  commit_and_apply_changed : (tx : List ℕ) (o : Option (FinMap key_cmp Pending)) → is_success (commit_and_apply_next I W tx o).reply ≡ true
      → DifferAt (changed_keys W.held tx) W.held.live (commit_and_apply_next I W tx o).world.held.live
  commit_and_apply_changed tx None well = absurd (cc well)
  commit_and_apply_changed tx (Some p) well = overlaid_changed W.held (pending_of W.held tx)

  set_changed : (pairs : List (Key × Pending)) (o : Option Wanted) → is_success (set_next I W pairs o).reply ≡ true
      → DifferAt (changed_in W.held (last_of pairs)) W.held.live (set_next I W pairs o).world.held.live
  set_changed pairs None well = overlaid_changed W.held (last_of pairs)
  set_changed pairs (Some wanted) well = absurd (cc well)

  -- The keys that a request changes are those at which the live values differ.
  pub answered_changed : (q : Request) → is_guarded q ≡ false → is_success (answered I W q).reply ≡ true
      → DifferAt (changed_by W q) W.held.live (answered I W q).world.held.live
  answered_changed Root plain well = none_changed W.held.live
  answered_changed OsNames plain well = none_changed W.held.live
  answered_changed Settings plain well = none_changed W.held.live
  answered_changed (SettingsAt list) plain well = none_changed W.held.live
  answered_changed (SettingsBelow key) plain well = none_changed W.held.live
  answered_changed (Patch tx pairs) plain well = patch_changed tx pairs (first_wanted I.types pairs)
  answered_changed (Services names) plain well = none_changed W.held.live
  answered_changed (ConfigurationFiles names) plain well = none_changed W.held.live
  answered_changed (Affected list) plain well = none_changed W.held.live
  answered_changed (Pends tx) plain well = none_changed W.held.live
  answered_changed (DropTx tx) plain well = none_changed W.held.live
  answered_changed TxList plain well = none_changed W.held.live
  answered_changed (Commit tx) plain well = commit_changed tx (get W.held.pending tx) well
  answered_changed Apply plain well = none_changed W.held.live
  answered_changed (CommitAndApply tx) plain well = commit_and_apply_changed tx (get W.held.pending tx) well
  answered_changed JobNow plain well = none_changed W.held.live
  answered_changed (Set pairs) plain well = set_changed pairs (first_wanted I.types pairs) well
  answered_changed ApplyAll plain well = none_changed W.held.live
  answered_changed (Guarded q) plain well = absurd (cc plain)
  answered_changed (Plan tx) plain well = none_changed W.held.live
  answered_changed (PlanFile file tx) plain well = none_changed W.held.live
  answered_changed Store plain well = none_changed W.held.live
  answered_changed Verify plain well = none_changed W.held.live
