-- Each entry changes what is held.
use Rattle.std.proofs.Common.{◌≡◌, ◌≢◌, ℕ, List, [], ◌∷◌, slice_index_or, Option, Some, None, is_some}
use Rattle.std.proofs.Common.{Bool, true, false, not, cond, map, filter, refl, sym, ◌∙◌, ap}
use Rattle.std.specs.Prelude.{All}
use Rattle.std.specs.Cmp.{eq_by_cmp_equiv}
use Rattle.std.specs.Ordering.{eq_by_cmp}
use Rattle.std.specs.Option.{option_to_list}
use Rattle.std.specs.FinMap.{get, contains_key-keys}
use Rattle.std.proofs.lemmas.Bool.{both_ways}
use Rattle.std.proofs.lemmas.List.Elements.{All-nil, All-cons, All-map}
use Rattle.std.proofs.lemmas.List.Folds.{list_any_at}
use Rattle.key_names.specs.Order.{bytes_total, key_cmp, key_total}
use Rattle.json_trees.specs.Equal.{scalar_eq, pending_eq}
use Rattle.json_trees.specs.EqualLaws.{scalar_eq-Decides, pending_eq-Decides}
use Rattle.json_trees.specs.declared.pending.Pending.{Pending}
use Rattle.json_trees.specs.declared.pending.Pending.TheVariants.{Put, Gone}
use Rattle.settings_maps.specs.Maps.{inner, value_at}
use Rattle.settings_maps.proofs.NestedMaps.{get-insert_same, get-remove_same, value_at-with_same, value_at-without_same}
use Rattle.settings_tree.specs.Laid.{laid_one}
use Rattle.settings_tree.specs.declared.entry.Entry.{Entry}
use Rattle.settings_tree.specs.declared.entry.Entry.TheVariants.{PendSet, PendGone, OwedSet, WeakIs}
use Rattle.settings_tree.specs.declared.entry.Owed.{Owed}
use Rattle.settings_tree.specs.declared.held.Held.{Held}
use Rattle.pending_tx.specs.Changes.{Tells}
use Rattle.pending_tx.specs.Entries.{live_entry, is_pending, is_new}
use Rattle.settings_maps.specs.KeyList.{has_key}
use Rattle.pending_tx.specs.Transactions.{differs, keys_of}

abbrev pub Changes : Held → Entry → Type 0
Changes h e = laid_one h e ≢ h

unlike : (b : Bool) → b ≡ true → not b ≡ true → ⊥
unlike true is not_so = absurd (cc not_so)
unlike false is not_so = absurd (cc is)

live_changes : (h : Held) (k : List (List ℕ)) (p : Pending) → differs p (get h.live.values k) ≡ true → laid_one h (live_entry k p) ≢ h
live_changes h k (Put v) changed same =
    let stands : get h.live.values k ≡ Some v = sym (ap (λ (g : Held). get g.live.values k) same) ∙ get-insert_same key_total h.live.values k v in
    unlike (scalar_eq v v) ((scalar_eq-Decides v v).1 refl) (sym (ap (differs (Put v)) stands) ∙ changed)
live_changes h k Gone changed same =
    let none : get h.live.values k ≡ None = sym (ap (λ (g : Held). get g.live.values k) same) ∙ get-remove_same key_total h.live.values k in
    both_ways (is_some (get h.live.values k)) (ap is_some none) changed

-- Entries for values that differ.
pub all_live_change : (h : Held) (es : List (List (List ℕ) × Pending))
    → All (λ e. laid_one h e ≢ h) (map (λ e. live_entry e.0 e.1) (filter (λ e. differs e.1 (get h.live.values e.0)) es))
all_live_change h [] = All-nil (Changes h)
all_live_change h (e ∷ es) = by (differs e.1 (get h.live.values e.0)) refl (all_live_change h es) where
  by : (b : Bool) → differs e.1 (get h.live.values e.0) ≡ b → All (Changes h)
      (map (λ e. live_entry e.0 e.1) (filter (λ e. differs e.1 (get h.live.values e.0)) es))
      → All (Changes h) (map (λ e. live_entry e.0 e.1) (cond b (e ∷ filter (λ e. differs e.1 (get h.live.values e.0)) es)
      (filter (λ e. differs e.1 (get h.live.values e.0)) es)))
  by true is rest = All-cons (Changes h) (live_entry e.0 e.1) _ (live_changes h e.0 e.1 is) rest
  by false is rest = rest

-- An entry that takes a key that its transaction has.
pub gone_changes : (h : Held) (tx : List ℕ) (k : List (List ℕ)) → has_key (keys_of h tx) k ≡ true → laid_one h (PendGone tx k) ≢ h
gone_changes h tx k has same =
    let none : value_at h.pending tx k ≡ None = sym (ap (λ (g : Held). value_at g.pending tx k) same)
    ∙ value_at-without_same bytes_total key_total h.pending tx k in
    both_ways (is_some (value_at h.pending tx k)) (ap is_some none) (contains_key-keys (inner h.pending tx) k ∙ has)

-- Entries that take a transaction's keys.
pub all_gone_change : (h : Held) (tx : List ℕ) → All (λ e. laid_one h e ≢ h) (map (λ k. PendGone tx k) (keys_of h tx))
all_gone_change h tx = All-map (Changes h) (λ k. PendGone tx k) (keys_of h tx) (λ i d low. gone_changes h tx (slice_index_or (keys_of h tx) i d)
    (list_any_at (eq_by_cmp key_cmp (slice_index_or (keys_of h tx) i d)) (keys_of h tx) i d low
    ((eq_by_cmp_equiv key_total).refl (slice_index_or (keys_of h tx) i d))))

set_changes : (h : Held) (tx : List ℕ) (k : List (List ℕ)) (p : Pending) → is_new h tx k p ≡ true → laid_one h (PendSet tx k p) ≢ h
set_changes h tx k p new same =
    let stands : value_at h.pending tx k ≡ Some p = sym (ap (λ (g : Held). value_at g.pending tx k) same)
    ∙ value_at-with_same bytes_total key_total h.pending tx k p in
    unlike (pending_eq p p) ((pending_eq-Decides p p).1 refl) (sym (ap (λ (o : Option Pending). not (is_pending o p)) stands) ∙ new)

-- Entries that set what is not so.
pub all_set_change : (h : Held) (tx : List ℕ) (es : List (List (List ℕ) × Pending))
    → All (λ e. laid_one h e ≢ h) (map (λ e. PendSet tx e.0 e.1) (filter (λ e. is_new h tx e.0 e.1) es))
all_set_change h tx [] = All-nil (Changes h)
all_set_change h tx (e ∷ es) = by (is_new h tx e.0 e.1) refl (all_set_change h tx es) where
  by : (b : Bool) → is_new h tx e.0 e.1 ≡ b → All (Changes h) (map (λ e. PendSet tx e.0 e.1) (filter (λ e. is_new h tx e.0 e.1) es))
      → All (Changes h) (map (λ e. PendSet tx e.0 e.1) (cond b (e ∷ filter (λ e. is_new h tx e.0 e.1) es) (filter (λ e. is_new h tx e.0 e.1) es)))
  by true is rest = All-cons (Changes h) (PendSet tx e.0 e.1) _ (set_changes h tx e.0 e.1 is) rest
  by false is rest = rest

-- The entry for what is owed, and the one for the weak keys.
pub owed_changes : (h : Held) (e : Option Entry) (next : Owed) → Tells e OwedSet h.owed next → All (λ e. laid_one h e ≢ h) (option_to_list e)
owed_changes h None next same = All-nil (Changes h)
owed_changes h (Some e) next tells = All-cons (Changes h) e [] (λ same. tells.1 (ap (λ (g : Held). g.owed) (sym (ap (laid_one h) tells.0) ∙ same)))
    (All-nil (Changes h))

pub weak_changes : (h : Held) (e : Option Entry) (next : List (List (List ℕ))) → Tells e WeakIs h.live.weak next
    → All (λ e. laid_one h e ≢ h) (option_to_list e)
weak_changes h None next same = All-nil (Changes h)
weak_changes h (Some e) next tells = All-cons (Changes h) e [] (λ same. tells.1 (ap (λ (g : Held). g.live.weak) (sym (ap (laid_one h) tells.0) ∙ same)))
    (All-nil (Changes h))
