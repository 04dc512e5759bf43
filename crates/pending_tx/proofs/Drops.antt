-- The change that ends a transaction.
use Rattle.std.proofs.Common.{◌≡◌, ◌≢◌, ℕ, List, true, not, map, refl, sym, ◌∙◌, ap, subst}
use Rattle.std.specs.Prelude.{All}
use Rattle.std.specs.List.{list_all}
use Rattle.std.proofs.lemmas.List.Elements.{All-contains}
use Rattle.std.proofs.lemmas.List.Sums.{AllPass-from_list_all}
use Rattle.settings_tree.specs.Change.{place, is_same, is_unnamed, is_once, has_bare_name}
use Rattle.settings_tree.specs.Change.{Live, TheWeak}
use Rattle.settings_tree.specs.Laid.{laid, laid_one, KeepsPrefixRule, NamesWeak, TellsWeak}
use Rattle.settings_tree.specs.Pending.{IsPending}
use Rattle.settings_tree.specs.declared.entry.Entry.{Entry}
use Rattle.settings_tree.specs.declared.entry.Entry.TheVariants.{PendGone, WeakIs}
use Rattle.settings_tree.specs.declared.held.Held.{Held}
use Rattle.settings_maps.specs.Maps.{inner}
use Rattle.std.specs.FinMap.{FinMap}
use Rattle.key_names.specs.Order.{bytes_cmp, key_cmp}
use Rattle.json_trees.specs.declared.pending.Pending.{Pending}
use Rattle.pending_tx.specs.Changes.{NamesOnlyChanges}
use Rattle.pending_tx.specs.Transactions.{dropped, keys_of}
use Rattle.pending_tx.proofs.Changing.{all_gone_change}
use Rattle.pending_tx.proofs.Effects.{gone_laid}
use Rattle.pending_tx.proofs.Ended.{all_taken, removed_free}
use Rattle.pending_tx.proofs.Named.{gone_once, gone_bare, gone_no_live, gone_no_weak}
use Rattle.settings_tree.proofs.Rising.{keys_rise}

-- A change that names no weak keys need not say which may be.
pub names_none : (h : Held) (es : List Entry) → is_unnamed TheWeak es ≡ true → NamesWeak h es
names_none h es none = record {
  may = λ weak has. absurd (named weak (All-contains (λ e. not (is_same TheWeak (place e)) ≡ true) es (WeakIs weak)
      (AllPass-from_list_all (λ e. not (is_same TheWeak (place e))) es none) has));
} where
  named : (weak : List (List (List ℕ))) → not (is_same TheWeak (place (WeakIs weak))) ≡ true → ⊥
  named weak e = cc e

-- One that names no live key leaves the weak keys alone.
pub tells_none : (h : Held) (es : List Entry) → ((k : List (List ℕ)) → is_unnamed (Live k) es ≡ true) → TellsWeak h es
tells_none h es none = record { told = λ unnamed i d low. none _ }

module _ (h : Held) (tx : List ℕ) (es : List Entry) (made : es ≡ map (λ k. PendGone tx k) (keys_of h tx)) where
  pub drop_once : is_once es ≡ true
  drop_once = ap is_once made ∙ gone_once tx (keys_of h tx) (keys_rise (inner h.pending tx) (keys_of h tx) refl)

  pub drop_bare : list_all has_bare_name es ≡ true
  drop_bare = ap (list_all has_bare_name) made ∙ gone_bare tx (keys_of h tx)

  pub drop_laid : IsPending h.pending → laid h es ≡ dropped h tx
  drop_laid valid = ap (laid h) made ∙ gone_laid h tx (keys_of h tx) ∙ ap (λ (m : FinMap bytes_cmp (FinMap key_cmp Pending)). record h { pending = m })
      (all_taken h.pending tx valid.full)

  pub drop_rule : IsPending h.pending → KeepsPrefixRule h → KeepsPrefixRule (laid h es)
  drop_rule valid rule = subst KeepsPrefixRule (sym (drop_laid valid)) (record { live = rule.live; pending = removed_free h.pending tx rule.pending })

  pub drop_weak : NamesWeak h es
  drop_weak = names_none h es (ap (is_unnamed TheWeak) made ∙ gone_no_weak tx (keys_of h tx))

  pub drop_told : TellsWeak h es
  drop_told = tells_none h es (λ k. ap (is_unnamed (Live k)) made ∙ gone_no_live tx (keys_of h tx) k)

  pub drop_changes : NamesOnlyChanges h es
  drop_changes = record { each = subst (All (λ e. laid_one h e ≢ h)) (sym made) (all_gone_change h tx) }
