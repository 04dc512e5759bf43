-- The entries that end a transaction, or none.
use Rattle.std.proofs.Common.{◌≡◌, ◌≢◌, ℕ, List, [], ◌++◌, true, refl, sym, ◌∙◌, ap, subst}
use Rattle.std.specs.Prelude.{All, fold, map}
use Rattle.std.specs.List.{list_all}
use Rattle.std.specs.FinMap.{FinMap, remove}
use Rattle.std.proofs.lemmas.List.Elements.{All-nil}
use Rattle.key_names.specs.Order.{bytes_cmp, key_cmp}
use Rattle.json_trees.specs.declared.pending.Pending.{Pending}
use Rattle.settings_maps.specs.Maps.{inner, without_value}
use Rattle.settings_tree.specs.Change.{is_unnamed, is_once, has_bare_name}
use Rattle.settings_tree.specs.Change.{Live, Pend, TheWeak}
use Rattle.settings_tree.specs.Laid.{laid, laid_one}
use Rattle.settings_tree.specs.Pending.{IsPending}
use Rattle.settings_tree.specs.declared.entry.Entry.{Entry}
use Rattle.settings_tree.specs.declared.entry.Entry.TheVariants.{PendGone}
use Rattle.settings_tree.specs.declared.held.Held.{Held}
use Rattle.settings_tree.proofs.Rising.{keys_rise}
use Rattle.pending_tx.specs.Transactions.{keys_of}
use Rattle.pending_tx.proofs.Changing.{all_gone_change}
use Rattle.pending_tx.proofs.Effects.{gone_laid}
use Rattle.pending_tx.proofs.Ended.{all_taken}
use Rattle.pending_tx.proofs.Named.{are_apart, gone_once, gone_bare, gone_no_live, gone_no_weak, gone_apart}

abbrev Pendings : Type 0
Pendings = FinMap bytes_cmp (FinMap key_cmp Pending)

-- Entries that name no live key and not the weak keys, each other than what is held, and that change nothing but what is pending.
pub record EndsBy (h : Held) (ended : List Entry) (after : FinMap bytes_cmp (FinMap key_cmp Pending)) : Type 0 where
  pub once : is_once ended ≡ true
  pub bare : list_all has_bare_name ended ≡ true
  pub no_live : (k : List (List ℕ)) → is_unnamed (Live k) ended ≡ true
  pub no_weak : is_unnamed TheWeak ended ≡ true
  pub apart : (es : List Entry) → ((tx : List ℕ) (k : List (List ℕ)) → is_unnamed (Pend tx k) es ≡ true) → are_apart ended es ≡ true
  pub changes : All (λ e. laid_one h e ≢ h) ended
  pub gives : (g : Held) → g.pending ≡ h.pending → laid g ended ≡ record g { pending = after }

-- A transaction ends by its keys.
pub ended_tx : (h : Held) (tx : List ℕ) → IsPending h.pending → EndsBy h (map (λ k. PendGone tx k) (keys_of h tx)) (remove h.pending tx)
ended_tx h tx valid = record {
  once = gone_once tx (keys_of h tx) (keys_rise (inner h.pending tx) (keys_of h tx) refl);
  bare = gone_bare tx (keys_of h tx);
  no_live = gone_no_live tx (keys_of h tx);
  no_weak = gone_no_weak tx (keys_of h tx);
  apart = λ es none. gone_apart tx (keys_of h tx) es (none tx);
  changes = all_gone_change h tx;
  gives = λ g same. gone_laid g tx (keys_of h tx)
      ∙ ap (λ (m : Pendings). record g { pending = fold (λ n k. without_value n tx k) m (keys_of h tx) }) same
      ∙ ap (λ (m : Pendings). record g { pending = m }) (all_taken h.pending tx valid.full);
}

-- The entries that were added for its keys to none.
pub ended_made : (h : Held) (tx : List ℕ) (none all : List Entry) (ks : List (List (List ℕ))) → IsPending h.pending → none ≡ [] → ks ≡ keys_of h tx
    → all ≡ none ++ map (λ k. PendGone tx k) ks → EndsBy h all (remove h.pending tx)
ended_made h tx none all ks valid is_none is_keys is_all = subst (λ (es : List Entry). EndsBy h es (remove h.pending tx))
    (sym (is_all ∙ ap (λ (es : List Entry). es ++ map (λ k. PendGone tx k) ks) is_none ∙ ap (map (λ k. PendGone tx k)) is_keys)) (ended_tx h tx valid)

-- Where none ends, what is pending stays.
pub ended_none : (h : Held) → EndsBy h [] h.pending
ended_none h = record {
  once = refl;
  bare = refl;
  no_live = λ k. refl;
  no_weak = refl;
  apart = λ es none. refl;
  changes = All-nil (λ e. laid_one h e ≢ h);
  gives = λ g same. ap (λ (m : Pendings). record g { pending = m }) same;
}
