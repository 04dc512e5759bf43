-- The change that commits a transaction.
use Rattle.std.proofs.Common.{◌≡◌, ◌≢◌, ◌++◌, ◌⊎◌, inl, inr, ◌&&◌, ◌||◌, ℕ, List, [], ◌∷◌, slice_index_or, Option, Some}
use Rattle.std.proofs.Common.{None, IsSome, is_some, Bool, true, false, not, cond, map, filter, refl, sym, ◌∙◌, ap, subst, append_assoc}
use Rattle.std.specs.Prelude.{All, IsTrue}
use Rattle.std.specs.Ordering.{eq_by_cmp}
use Rattle.std.specs.Cmp.{eq_by_cmp_equiv}
use Rattle.std.specs.List.{list_all, list_any}
use Rattle.std.specs.Option.{option_to_list}
use Rattle.std.specs.FinMap.{FinMap, get, entries, keys, is_sorted, contains_key-keys}
use Rattle.std.proofs.lemmas.Bool.{both_ways, and_from}
use Rattle.std.proofs.lemmas.List.Elements.{All-nil, All-cons, All-head, All-tail, All-append}
use Rattle.std.proofs.lemmas.List.Folds.{list_all-append, list_any_at}
use Rattle.key_names.specs.Order.{bytes_cmp, key_cmp, key_total}
use Rattle.key_names.specs.Key.{is_prefix}
use Rattle.json_trees.specs.declared.scalar.Scalar.{Scalar}
use Rattle.json_trees.specs.declared.pending.Pending.{Pending}
use Rattle.json_trees.specs.declared.pending.Pending.TheVariants.{Put, Gone}
use Rattle.settings_maps.specs.Maps.{inner, value_at}
use Rattle.settings_tree.specs.Change.{Place, place, is_same, is_unnamed, is_once, has_bare_name}
use Rattle.settings_tree.specs.Change.{Live, Pend, TheOwed, TheWeak}
use Rattle.settings_tree.specs.Content.{MayBeWeak, IsContent}
use Rattle.settings_tree.specs.Laid.{laid, laid_one, KeepsPrefixRule, NamesWeak, TellsWeak}
use Rattle.settings_tree.specs.Rule.{IsPrefixFree, Fits}
use Rattle.settings_tree.specs.declared.entry.Entry.{Entry}
use Rattle.settings_tree.specs.declared.entry.Entry.TheVariants.{OwedSet, WeakIs}
use Rattle.settings_tree.specs.declared.entry.Owed.{Owed}
use Rattle.settings_tree.specs.declared.held.Held.{Held}
use Rattle.settings_tree.proofs.LaidAt.{laid-append, weak_set}
use Rattle.pending_tx.specs.Changes.{Tells, NamesOnlyChanges}
use Rattle.pending_tx.specs.Entries.{live_entry, CommitAdds}
use Rattle.settings_maps.specs.KeyList.{has_key, without_keys}
use Rattle.pending_tx.specs.Transactions.{changed_in, changes_in, committed, differs, overlaid, owing, pending_of, FitOver}
use Rattle.pending_tx.proofs.Changing.{all_live_change, owed_changes, weak_changes}
use Rattle.pending_tx.proofs.Effects.{live_laid, owed_laid, weak_laid, changes_suffice}
use Rattle.pending_tx.proofs.Endings.{EndsBy, ended_none}
use Rattle.settings_maps.proofs.KeySets.{has_key-without}
use Rattle.pending_tx.proofs.Named.{are_apart, apart-append1, unnamed-append, once-append, live_once, live_bare, live_other}
use Rattle.pending_tx.proofs.Named.{live_apart, live_no_weak}
use Rattle.settings_tree.proofs.Over.{over, get-laid_over}
use Rattle.settings_tree.proofs.Rising.{entries_rise, sorted_some}

abbrev Key : Type 0
Key = List (List ℕ)

abbrev Pendings : Type 0
Pendings = FinMap bytes_cmp (FinMap key_cmp Pending)

-- The values after a commit.
pub value-committed : (h : Held) (tx : List ℕ) (q : List (List ℕ)) → get (committed h tx).live.values q ≡ over (value_at h.pending tx q) (get h.live.values q)
value-committed h tx q = get-laid_over h.live (pending_of h tx) q

none_laid : (m : FinMap key_cmp Pending) (q : Key) → has_key (keys m) q ≡ false → get m q ≡ None
none_laid m q none = by (get m q) (contains_key-keys m q ∙ none) where
  by : (o : Option Pending) → is_some o ≡ false → o ≡ None
  by None e = refl
  by (Some p) e = absurd (cc e)

-- Each key that is put there overlaps no other live key, and no other that is put there.
pub record PutsFit (h : Held) (m : FinMap key_cmp Pending) : Type 0 where
  pub fits : (k : List (List ℕ)) (v : Scalar) → get m k ≡ Some (Put v) → Fits h.live.values k
  pub apart : (k q : List (List ℕ)) (v w : Scalar) → get m k ≡ Some (Put v) → get m q ≡ Some (Put w) → IsTrue (is_prefix k q) → k ≡ q

pub puts_fit : (h : Held) (m : FinMap key_cmp Pending) → FitOver h m → PutsFit h m
puts_fit h m fit = record { fits = fit.fits; apart = λ k q v w has other begins. fit.free.alone k q (ap is_some has) (ap is_some other) begins }

module _ (h : Held) (m : FinMap key_cmp Pending) where
  -- A value that is there afterwards was there before, or was laid there.
  stood : (q : Key) → IsSome (get (overlaid h m).live.values q) → IsSome (get h.live.values q) ⊎ ((v : Scalar) × (get m q ≡ Some (Put v)))
  stood q has = by (get m q) refl (subst IsSome (get-laid_over h.live m q) has) where
    by : (o : Option Pending) → get m q ≡ o → IsSome (over o (get h.live.values q))
        → IsSome (get h.live.values q) ⊎ ((v : Scalar) × (get m q ≡ Some (Put v)))
    by None is has = inl has
    by (Some (Put v)) is has = inr (v, is)
    by (Some Gone) is has = absurd (cc has)

  overlaid_free : IsPrefixFree h.live.values → PutsFit h m → IsPrefixFree (overlaid h m).live.values
  overlaid_free free fit = record { alone = λ k q has other begins. by k q begins (stood k has) (stood q other) } where
    by : (k q : Key) → IsTrue (is_prefix k q) → IsSome (get h.live.values k) ⊎ ((v : Scalar) × (get m k ≡ Some (Put v)))
        → IsSome (get h.live.values q) ⊎ ((v : Scalar) × (get m q ≡ Some (Put v))) → k ≡ q
    by k q begins (inl a) (inl b) = free.alone k q a b begins
    by k q begins (inl a) (inr b) = let fits : Fits h.live.values q = fit.fits q b.0 b.1 in fits.shorter.alone k a begins
    by k q begins (inr a) (inl b) = let fits : Fits h.live.values k = fit.fits k a.0 a.1 in fits.longer.alone q b begins
    by k q begins (inr a) (inr b) = fit.apart k q a.0 b.0 a.1 b.1 begins

  -- The keys that stay weak have the values that they had.
  stay_weak : (weak : List Key) → All (MayBeWeak h.live.values) weak → All (MayBeWeak (overlaid h m).live.values) (without_keys weak (keys m))
  stay_weak [] may = All-nil (MayBeWeak (overlaid h m).live.values)
  stay_weak (k ∷ weak) may = by (has_key (keys m) k) refl (All-head (MayBeWeak h.live.values) k weak may)
      (stay_weak weak (All-tail (MayBeWeak h.live.values) k weak may)) where
        by : (b : Bool) → has_key (keys m) k ≡ b → MayBeWeak h.live.values k
            → All (MayBeWeak (overlaid h m).live.values) (without_keys weak (keys m))
            → All (MayBeWeak (overlaid h m).live.values) (cond (not b) (k ∷ without_keys weak (keys m)) (without_keys weak (keys m)))
        by true is here rest = rest
        by false is here rest = All-cons (MayBeWeak (overlaid h m).live.values) k _ (record {
          stands = subst IsSome (sym (get-laid_over h.live m k ∙ ap (λ (o : Option Pending). over o (get h.live.values k)) (none_laid m k is))) here.stands;
          setting = here.setting;
        }) rest

-- The entries, in four parts.
module _ (h : Held) (m : FinMap key_cmp Pending) (ended : List Entry) (after : Pendings) (ends : EndsBy h ended after) (owed_part weak_part : Option Entry)
    (tells_owed : Tells owed_part OwedSet h.owed (owing h.owed (changed_in h m)))
    (tells_weak : Tells weak_part WeakIs h.live.weak (without_keys h.live.weak (keys m))) where
  abbrev lives : List Entry
  lives = map (λ e. live_entry e.0 e.1) (changes_in h m)

  abbrev pub commit_entries : List Entry
  commit_entries = lives ++ ended ++ option_to_list owed_part ++ option_to_list weak_part

  changes_rise : is_sorted key_cmp (changes_in h m) ≡ true
  changes_rise = sorted_some key_cmp (λ e. differs e.1 (get h.live.values e.0)) (entries m) (entries_rise m)

  pub commit_laid : laid h commit_entries ≡ record (overlaid h m) { pending = after }
  commit_laid =
      laid-append h (lives ++ ended ++ option_to_list owed_part) (option_to_list weak_part)
      ∙ ap (λ (g : Held). laid g (option_to_list weak_part)) (laid-append h (lives ++ ended) (option_to_list owed_part)
      ∙ ap (λ (g : Held). laid g (option_to_list owed_part)) (laid-append h lives ended ∙ ap (λ (g : Held). laid g ended) (live_laid h (changes_in h m)
      ∙ ap (λ (n : FinMap key_cmp Scalar). record h { live = record h.live { values = n } })
      (changes_suffice h.live.values (entries m) (entries_rise m)))
      ∙ ends.gives with_values refl)
      ∙ owed_laid (record with_values { pending = after }) owed_part (owing h.owed (changed_in h m)) tells_owed)
      ∙ weak_laid (record with_values { pending = after; owed = owing h.owed (changed_in h m) }) weak_part (without_keys h.live.weak (keys m)) tells_weak
    where
      with_values : Held
      with_values = record h { live = record h.live { values = (overlaid h m).live.values } }

  owed_unnamed : (p : Place) → is_same p TheOwed ≡ false → (e : Option Entry) (next : Owed) → Tells e OwedSet h.owed next
      → is_unnamed p (option_to_list e) ≡ true
  owed_unnamed p other None next tells = refl
  owed_unnamed p other (Some e) next tells = ap (λ (x : Entry). is_unnamed p (x ∷ [])) tells.0 ∙ and_from _ _ (ap not other) refl

  weak_unnamed : (p : Place) → is_same p TheWeak ≡ false → (e : Option Entry) (next : List Key) → Tells e WeakIs h.live.weak next
      → is_unnamed p (option_to_list e) ≡ true
  weak_unnamed p other None next tells = refl
  weak_unnamed p other (Some e) next tells = ap (λ (x : Entry). is_unnamed p (x ∷ [])) tells.0 ∙ and_from _ _ (ap not other) refl

  one_once : (e : Option Entry) → is_once (option_to_list e) ≡ true
  one_once None = refl
  one_once (Some e) = refl

  owed_weak_apart : (e : Option Entry) (next : Owed) → Tells e OwedSet h.owed next → are_apart (option_to_list e) (option_to_list weak_part) ≡ true
  owed_weak_apart None next tells = refl
  owed_weak_apart (Some e) next tells = and_from _ _ (ap (λ (x : Entry). is_unnamed (place x) (option_to_list weak_part)) tells.0
      ∙ weak_unnamed TheOwed refl weak_part _ tells_weak) refl

  pub commit_once : is_once commit_entries ≡ true
  commit_once = once-append (lives ++ ended ++ option_to_list owed_part) (option_to_list weak_part)
      (once-append (lives ++ ended) (option_to_list owed_part)
      (once-append lives ended (live_once (changes_in h m) changes_rise) ends.once
      (live_apart (changes_in h m) ended ends.no_live))
      (one_once owed_part)
      (apart-append1 lives ended (option_to_list owed_part) (live_apart (changes_in h m) _ (λ k. owed_unnamed (Live k) refl owed_part _ tells_owed))
      (ends.apart _ (λ tx k. owed_unnamed (Pend tx k) refl owed_part _ tells_owed))))
      (one_once weak_part)
      (apart-append1 (lives ++ ended) (option_to_list owed_part) (option_to_list weak_part)
      (apart-append1 lives ended (option_to_list weak_part) (live_apart (changes_in h m) _ (λ k. weak_unnamed (Live k) refl weak_part _ tells_weak))
      (ends.apart _ (λ tx k. weak_unnamed (Pend tx k) refl weak_part _ tells_weak)))
      (owed_weak_apart owed_part _ tells_owed))

  owed_bare : (e : Option Entry) (next : Owed) → Tells e OwedSet h.owed next → list_all has_bare_name (option_to_list e) ≡ true
  owed_bare None next tells = refl
  owed_bare (Some e) next tells = ap (λ (x : Entry). list_all has_bare_name (x ∷ [])) tells.0

  weak_bare : (e : Option Entry) (next : List Key) → Tells e WeakIs h.live.weak next → list_all has_bare_name (option_to_list e) ≡ true
  weak_bare None next tells = refl
  weak_bare (Some e) next tells = ap (λ (x : Entry). list_all has_bare_name (x ∷ [])) tells.0

  all_bare : (es fs : List Entry) → list_all has_bare_name es ≡ true → list_all has_bare_name fs ≡ true → list_all has_bare_name (es ++ fs) ≡ true
  all_bare es fs first second = list_all-append has_bare_name es fs ∙ and_from _ _ first second

  pub commit_bare : list_all has_bare_name commit_entries ≡ true
  commit_bare = all_bare (lives ++ ended ++ option_to_list owed_part) (option_to_list weak_part)
      (all_bare (lives ++ ended) (option_to_list owed_part) (all_bare lives ended (live_bare (changes_in h m)) ends.bare)
      (owed_bare owed_part _ tells_owed))
      (weak_bare weak_part _ tells_weak)

  pub commit_changes : NamesOnlyChanges h commit_entries
  commit_changes = record {
    each = All-append changes (lives ++ ended ++ option_to_list owed_part) (option_to_list weak_part)
        (All-append changes (lives ++ ended) (option_to_list owed_part)
        (All-append changes lives ended (all_live_change h (entries m)) ends.changes) (owed_changes h owed_part _ tells_owed))
        (weak_changes h weak_part _ tells_weak);
  }
    where
      changes : Entry → Type 0
      changes e = laid_one h e ≢ h

  no_weak_before : is_unnamed TheWeak (lives ++ ended ++ option_to_list owed_part) ≡ true
  no_weak_before = unnamed-append TheWeak (lives ++ ended) (option_to_list owed_part)
      (unnamed-append TheWeak lives ended (live_no_weak (changes_in h m)) ends.no_weak) (owed_unnamed TheWeak refl owed_part _ tells_owed)

  weak_at_end : is_unnamed TheWeak commit_entries ≡ is_unnamed TheWeak (option_to_list weak_part)
  weak_at_end = list_all-append (λ e. not (is_same TheWeak (place e))) (lives ++ ended ++ option_to_list owed_part) (option_to_list weak_part)
      ∙ ap (λ b. b && is_unnamed TheWeak (option_to_list weak_part)) no_weak_before

  unnamed_is : (e : Option Entry) (next : List Key) → Tells e WeakIs h.live.weak next → is_unnamed TheWeak (option_to_list e) ≡ not (is_some e)
  unnamed_is None next tells = refl
  unnamed_is (Some e) next tells = ap (λ (x : Entry). is_unnamed TheWeak (x ∷ [])) tells.0

  -- The weak keys are named exactly where there is an entry for them.
  pub commit_strong : is_unnamed TheWeak commit_entries ≡ not (is_some weak_part)
  commit_strong = weak_at_end ∙ unnamed_is weak_part _ tells_weak

  pub commit_weak : IsContent h.live → NamesWeak h commit_entries
  commit_weak content = record {
    may = λ weak has. subst (λ (l : List Key). All (MayBeWeak (laid h commit_entries).live.values) l) (weak_set h commit_entries weak commit_once has)
        (subst (λ (g : Held). All (MayBeWeak g.live.values) g.live.weak) (sym commit_laid) (stay_weak h m h.live.weak content.weak));
  }

  same_weak : (e : Option Entry) (next : List Key) → Tells e WeakIs h.live.weak next → is_unnamed TheWeak (option_to_list e) ≡ true → next ≡ h.live.weak
  same_weak None next tells unnamed = tells
  same_weak (Some e) next tells unnamed = absurd (both_ways (is_unnamed TheWeak (e ∷ [])) (ap (λ (x : Entry). is_unnamed TheWeak (x ∷ [])) tells.0) unnamed)

  not_pending : (k : Key) → without_keys h.live.weak (keys m) ≡ h.live.weak → has_key h.live.weak k ≡ true → has_key (keys m) k ≡ false
  not_pending k same has = by (has_key h.live.weak k) (has_key (keys m) k)
      (sym (ap (λ (l : List Key). has_key l k) same) ∙ has_key-without h.live.weak (keys m) k) has where
        by : (a b : Bool) → a ≡ (a && not b) → a ≡ true → b ≡ false
        by true true is has = absurd (cc is)
        by true false is has = refl
        by false b is has = absurd (cc has)

  fewer : (p : Key × Pending → Bool) (es : List (Key × Pending)) (k : Key) → has_key (map (λ e. e.0) es) k ≡ false
      → has_key (map (λ e. e.0) (filter p es)) k ≡ false
  fewer p [] k none = refl
  fewer p (e ∷ es) k none = by (eq_by_cmp key_cmp k e.0) refl none (fewer p es k) where
    by : (b : Bool) → eq_by_cmp key_cmp k e.0 ≡ b → (b || has_key (map (λ e. e.0) es) k) ≡ false
        → (has_key (map (λ e. e.0) es) k ≡ false → has_key (map (λ e. e.0) (filter p es)) k ≡ false)
        → has_key (map (λ e. e.0) (cond (p e) (e ∷ filter p es) (filter p es))) k ≡ false
    by true is none rest = absurd (cc none)
    by false is none rest = pass (p e) where
      pass : (c : Bool) → has_key (map (λ e. e.0) (cond c (e ∷ filter p es) (filter p es))) k ≡ false
      pass true = ap (λ b. b || has_key (map (λ e. e.0) (filter p es)) k) is ∙ rest none
      pass false = rest none

  live_unnamed_all : (k : Key) → has_key (keys m) k ≡ false → is_unnamed (Live k) commit_entries ≡ true
  live_unnamed_all k none = unnamed-append (Live k) (lives ++ ended ++ option_to_list owed_part) (option_to_list weak_part)
      (unnamed-append (Live k) (lives ++ ended) (option_to_list owed_part)
      (unnamed-append (Live k) lives ended (live_other k (changes_in h m) (fewer _ (entries m) k none))
      (ends.no_live k)) (owed_unnamed (Live k) refl owed_part _ tells_owed))
      (weak_unnamed (Live k) refl weak_part _ tells_weak)

  pub commit_told : TellsWeak h commit_entries
  commit_told = record {
    told = λ unnamed i d low. live_unnamed_all (slice_index_or h.live.weak i d)
        (not_pending (slice_index_or h.live.weak i d) (same_weak weak_part _ tells_weak (sym weak_at_end ∙ unnamed))
        (list_any_at (eq_by_cmp key_cmp (slice_index_or h.live.weak i d)) h.live.weak i d low
        ((eq_by_cmp_equiv key_total).refl (slice_index_or h.live.weak i d))));
  }

  pub commit_rule : KeepsPrefixRule h → PutsFit h m → ((tx : List ℕ) → IsPrefixFree (inner after tx)) → KeepsPrefixRule (laid h commit_entries)
  commit_rule rule fit free = subst KeepsPrefixRule (sym commit_laid) (record { live = overlaid_free h m rule.live fit; pending = free })

-- A change that lays values and removals over the live values, after which this is pending.
pub record CommitsTo (h : Held) (m : FinMap key_cmp Pending) (after : FinMap bytes_cmp (FinMap key_cmp Pending)) (es : List Entry) : Type 0 where
  pub once : is_once es ≡ true
  pub bare : list_all has_bare_name es ≡ true
  pub gives : laid h es ≡ record (overlaid h m) { pending = after }
  pub rule : KeepsPrefixRule h → PutsFit h m → ((tx : List ℕ) → IsPrefixFree (inner after tx)) → KeepsPrefixRule (laid h es)
  pub weak : NamesWeak h es
  pub told : TellsWeak h es
  pub strong : is_unnamed TheWeak es ≡ not (list_any (has_key h.live.weak) (keys m))
  pub changes : NamesOnlyChanges h es

-- The entries that were added part by part.
pub adds_made : (h : Held) (ended : List Entry) (owed_part weak_part : Option Entry) (ks changed weak : List (List (List ℕ)))
    (changes : List (List (List ℕ) × Pending)) (old first second third all : List Entry) → weak ≡ h.live.weak
    → Tells owed_part OwedSet h.owed (owing h.owed changed) → Tells weak_part WeakIs weak (without_keys weak ks)
    → is_some weak_part ≡ list_any (has_key weak) ks
    → first ≡ old ++ map (λ e. live_entry e.0 e.1) changes → second ≡ first ++ ended → third ≡ second ++ option_to_list owed_part
    → all ≡ third ++ option_to_list weak_part
    → CommitAdds h ended ks changed changes old all
adds_made h ended owed_part weak_part ks changed weak changes old first second third all is_weak owed_tells weak_tells is_strong is_first is_second is_third
    is_all =
    let lives = map (λ (e : Key × Pending). live_entry e.0 e.1) changes in
    let owed_list = option_to_list owed_part in
    let weak_list = option_to_list weak_part in
    record {
      owed_part = owed_part;
      weak_part = weak_part;
      owed = owed_tells;
      weak = subst (λ (l : List Key). Tells weak_part WeakIs l (without_keys l ks)) is_weak weak_tells;
      strong = is_strong ∙ ap (λ (l : List Key). list_any (has_key l) ks) is_weak;
      added = is_all ∙ ap (λ (l : List Entry). l ++ weak_list) (is_third ∙ ap (λ (l : List Entry). l ++ owed_list) (is_second
          ∙ ap (λ (l : List Entry). l ++ ended) is_first ∙ append_assoc old lives ended)
          ∙ append_assoc old (lives ++ ended) owed_list)
          ∙ append_assoc old (lives ++ ended ++ owed_list) weak_list;
    }

-- What was added to none lays the values and removals over the live values.
pub whole_made : (h : Held) (m : FinMap key_cmp Pending) (ended : List Entry) (after : FinMap bytes_cmp (FinMap key_cmp Pending)) (all : List Entry)
    → EndsBy h ended after → IsContent h.live → CommitAdds h ended (keys m) (changed_in h m) (changes_in h m) [] all → CommitsTo h m after all
whole_made h m ended after all ends content p =
    subst (CommitsTo h m after) (sym p.added) (record {
      once = commit_once h m ended after ends p.owed_part p.weak_part p.owed p.weak;
      bare = commit_bare h m ended after ends p.owed_part p.weak_part p.owed p.weak;
      gives = commit_laid h m ended after ends p.owed_part p.weak_part p.owed p.weak;
      rule = commit_rule h m ended after ends p.owed_part p.weak_part p.owed p.weak;
      weak = commit_weak h m ended after ends p.owed_part p.weak_part p.owed p.weak content;
      told = commit_told h m ended after ends p.owed_part p.weak_part p.owed p.weak;
      strong = commit_strong h m ended after ends p.owed_part p.weak_part p.owed p.weak ∙ ap not p.strong;
      changes = commit_changes h m ended after ends p.owed_part p.weak_part p.owed p.weak;
    })

-- Where nothing that is pending is taken away, it stays.
pub set_made : (h : Held) (m : FinMap key_cmp Pending) (ended all : List Entry) → ended ≡ [] → IsContent h.live
    → CommitAdds h ended (keys m) (changed_in h m) (changes_in h m) [] all → CommitsTo h m h.pending all
set_made h m ended all none content p = whole_made h m ended h.pending all
    (subst (λ (es : List Entry). EndsBy h es h.pending) (sym none) (ended_none h)) content p

-- The parts of what was added, as the values and removals have them.
pub adds_at : (h : Held) (m : FinMap key_cmp Pending) (ended : List Entry) (ks changed : List (List (List ℕ))) (changes : List (List (List ℕ) × Pending))
    (none all : List Entry) → none ≡ [] → ks ≡ keys m → changed ≡ changed_in h m → changes ≡ changes_in h m → CommitAdds h ended ks changed changes none all
    → CommitAdds h ended (keys m) (changed_in h m) (changes_in h m) [] all
adds_at h m ended ks changed changes none all is_none is_keys is_changed is_changes adds =
    subst (λ (l : List Entry). CommitAdds h ended (keys m) (changed_in h m) (changes_in h m) l all) is_none
    (subst (λ (l : List Key). CommitAdds h ended l (changed_in h m) (changes_in h m) none all) is_keys
    (subst (λ (l : List Key). CommitAdds h ended ks l (changes_in h m) none all) is_changed
    (subst (λ (l : List (Key × Pending)). CommitAdds h ended ks changed l none all) is_changes adds)))

-- The entries of a commit, added to none, lay the values and removals over the live values.
pub commit_made : (h : Held) (m : FinMap key_cmp Pending) (after : FinMap bytes_cmp (FinMap key_cmp Pending)) (ended : List Entry)
    (ks changed : List (List (List ℕ))) (changes : List (List (List ℕ) × Pending)) (none all : List Entry)
    → EndsBy h ended after → IsContent h.live → none ≡ [] → ks ≡ keys m → changed ≡ changed_in h m → changes ≡ changes_in h m
    → CommitAdds h ended ks changed changes none all → CommitsTo h m after all
commit_made h m after ended ks changed changes none all ends content is_none is_keys is_changed is_changes adds =
    whole_made h m ended after all ends content (adds_at h m ended ks changed changes none all is_none is_keys is_changed is_changes adds)
