-- The entries that take what is pending for some keys from all transactions.
use Rattle.std.proofs.Common.{◌≡◌, ◌≢◌, ◌&&◌, ◌||◌, ℕ, List, [], ◌∷◌, ◌++◌, slice_index_or, Option, Some, None, IsSome}
use Rattle.std.proofs.Common.{Bool, true, false, not, cond, map, filter, unwrap_or, refl, sym, ◌∙◌, ap, subst, append_assoc}
use Rattle.std.specs.Prelude.{All, fold, if◌then◌else◌}
use Rattle.std.specs.Ordering.{eq_by_cmp, is_eq, is_lt}
use Rattle.std.specs.declared.cmp.Ordering.{Ordering}
use Rattle.std.specs.declared.cmp.Ordering.TheVariants.{Less, Equal, Greater}
use Rattle.std.specs.Cmp.{eq_by_cmp_equiv}
use Rattle.std.specs.List.{flat_map, list_all, list_any}
use Rattle.std.specs.FinMap.{FinMap, empty, get, entries, keys, is_sorted}
use Rattle.std.specs.FinMap.Entries.{below_all}
use Rattle.std.proofs.lemmas.Bool.{and_parts, and_from}
use Rattle.std.proofs.lemmas.List.Elements.{All-map}
use Rattle.std.proofs.lemmas.List.Folds.{list_any_at}
use Rattle.std.proofs.lemmas.List.Kept.{IsStrictlySortedBy-filter}
use Rattle.key_names.specs.Order.{bytes_cmp, bytes_total, key_cmp, key_total}
use Rattle.json_trees.specs.declared.pending.Pending.{Pending}
use Rattle.json_trees.specs.declared.pending.Pending.TheVariants.{Put, Gone}
use Rattle.settings_maps.specs.KeyList.{has_key}
use Rattle.settings_maps.specs.Maps.{inner, value_at, without_value}
use Rattle.settings_tree.specs.Change.{is_unnamed, is_once, has_bare_name}
use Rattle.settings_tree.specs.Change.{Live, Pend, TheWeak}
use Rattle.settings_tree.specs.Content.{IsContent}
use Rattle.settings_tree.specs.Laid.{laid, laid_one, KeepsPrefixRule, NamesWeak, TellsWeak}
use Rattle.settings_tree.specs.Rule.{IsPrefixFree}
use Rattle.settings_tree.specs.declared.entry.Entry.{Entry}
use Rattle.settings_tree.specs.declared.entry.Entry.TheVariants.{PendGone}
use Rattle.settings_tree.specs.declared.held.Held.{Held}
use Rattle.settings_tree.proofs.Rising.{entries_rise, keys_rise}
use Rattle.pending_tx.specs.Changes.{NamesOnlyChanges}
use Rattle.pending_tx.specs.Entries.{taken_by, CommitAdds}
use Rattle.pending_tx.specs.Transactions.{changed_in, changes_in, forgotten, last_of, pending_at, removals}
use Rattle.pending_tx.proofs.Changing.{Changes, gone_changes}
use Rattle.pending_tx.proofs.Commits.{CommitsTo, PutsFit, whole_made}
use Rattle.pending_tx.proofs.Endings.{EndsBy}
use Rattle.pending_tx.proofs.Forgets.{forgotten_pending, has_named, removed_at}
use Rattle.pending_tx.proofs.Named.{are_apart, once-append, gone_once, gone_apart}
use Rattle.pending_tx.proofs.Places.{Pendings, Place, is_here, places_of, pending_here}

abbrev Key : Type 0
Key = List (List ℕ)

-- Whether the places have this one.
abbrev has_place : List Place → List ℕ → Key → Bool
has_place ps t q = list_any (λ p. eq_by_cmp bytes_cmp t p.0 && eq_by_cmp key_cmp q p.1) ps

-- A place is in the list exactly where its key is with those of its transaction.
has_here : (ps : List Place) (t : List ℕ) (q : Key) → has_place ps t q ≡ list_any (λ p. eq_by_cmp key_cmp q p.1) (filter (is_here t) ps)
has_here [] t q = refl
has_here (p ∷ ps) t q = ap (λ b. (is_here t p && eq_by_cmp key_cmp q p.1) || b) (has_here ps t q) ∙ by (is_here t p) where
  by : (b : Bool) → ((b && eq_by_cmp key_cmp q p.1) || list_any (λ p. eq_by_cmp key_cmp q p.1) (filter (is_here t) ps))
      ≡ list_any (λ p. eq_by_cmp key_cmp q p.1) (cond b (p ∷ filter (is_here t) ps) (filter (is_here t) ps))
  by true = refl
  by false = refl

key_placed : (t : List ℕ) (l : List Key) (q : Key) → list_any (λ (p : Place). eq_by_cmp key_cmp q p.1) (map (λ k. (t, k)) l) ≡ has_key l q
key_placed t [] q = refl
key_placed t (k ∷ l) q = ap (λ b. eq_by_cmp key_cmp q k || b) (key_placed t l q)

-- What is pending for the keys is pending.
placed_there : (m : Pendings) (ks : List Key) (t : List ℕ) (q : Key) → has_place (pending_at m ks) t q ≡ true → has_key (keys (inner m t)) q ≡ true
placed_there m ks t q has = by (get m t) (sym (has_here (pending_at m ks) t q
    ∙ ap (list_any (λ (p : Place). eq_by_cmp key_cmp q p.1)) (pending_here t ks m)) ∙ has) where
      by : (o : Option (FinMap key_cmp Pending)) → list_any (λ (p : Place). eq_by_cmp key_cmp q p.1) (places_of t ks o) ≡ true
          → has_key (keys (unwrap_or o empty)) q ≡ true
      by None has = absurd (cc has)
      by (Some i) has = (and_parts (has_key ks q) (has_key (keys i) q) (sym (key_placed t (filter (has_key ks) (keys i)) q ∙ has_named ks (keys i) q) ∙ has)).1

itself : (t : List ℕ) (k : Key) → (eq_by_cmp bytes_cmp t t && eq_by_cmp key_cmp k k) ≡ true
itself t k = and_from _ _ ((eq_by_cmp_equiv bytes_total).refl t) ((eq_by_cmp_equiv key_total).refl k)

-- So each entry changes what is held.
all_taken_change : (h : Held) (ks : List Key) → All (λ e. laid_one h e ≢ h) (taken_by (pending_at h.pending ks))
all_taken_change h ks = All-map (Changes h) (λ (p : Place). PendGone p.0 p.1) (pending_at h.pending ks) (λ i d low.
    at (slice_index_or (pending_at h.pending ks) i d) (list_any_at (is_at (slice_index_or (pending_at h.pending ks) i d)) (pending_at h.pending ks) i d low
    (itself (slice_index_or (pending_at h.pending ks) i d).0 (slice_index_or (pending_at h.pending ks) i d).1)))
  where
    is_at : Place → Place → Bool
    is_at q p = eq_by_cmp bytes_cmp q.0 p.0 && eq_by_cmp key_cmp q.1 p.1

    at : (p : Place) → list_any (is_at p) (pending_at h.pending ks) ≡ true → laid_one h (PendGone p.0 p.1) ≢ h
    at p has = gone_changes h p.0 p.1 (placed_there h.pending ks p.0 p.1 has)

-- The entries that take the keys from these transactions.
abbrev pub taken_in : List (List (List ℕ)) → List (List ℕ × FinMap key_cmp Pending) → List Entry
taken_in ks es = taken_by (flat_map (λ e. map (λ k. (e.0, k)) (filter (has_key ks) (keys e.1))) es)

-- The entries of two lists.
taken_both : (t : List ℕ) (l : List Key) (ps : List Place) → taken_by (map (λ k. (t, k)) l ++ ps) ≡ map (λ k. PendGone t k) l ++ taken_by ps
taken_both t [] ps = refl
taken_both t (k ∷ l) ps = ap (λ (es : List Entry). PendGone t k ∷ es) (taken_both t l ps)

-- Those of the next transaction, and of the rest.
pub taken_next : (ks : List (List (List ℕ))) (all done now : List Entry) (left rest : List (List ℕ × FinMap key_cmp Pending))
    (t : List ℕ) (i : FinMap key_cmp Pending) → done ++ taken_in ks left ≡ all → left ≡ (t, i) ∷ rest
    → now ≡ done ++ map (λ k. PendGone t k) (filter (has_key ks) (keys i)) → now ++ taken_in ks rest ≡ all
taken_next ks all done now left rest t i whole next added =
    ap (λ (es : List Entry). es ++ taken_in ks rest) added
    ∙ append_assoc done (map (λ k. PendGone t k) (filter (has_key ks) (keys i))) (taken_in ks rest)
    ∙ ap (λ (es : List Entry). done ++ es) (sym (ap (taken_in ks) next ∙ taken_both t (filter (has_key ks) (keys i)) _)) ∙ whole

-- A transaction is not among those after it.
not_same : (a b : Bool) → a ≡ false → not (a && b) ≡ true
not_same true b e = absurd (cc e)
not_same false b e = refl

other_unnamed : (t u : List ℕ) (q : Key) (l : List Key) (ps : List Place) → eq_by_cmp bytes_cmp t u ≡ false → is_unnamed (Pend t q) (taken_by ps) ≡ true
    → is_unnamed (Pend t q) (taken_by (map (λ k. (u, k)) l ++ ps)) ≡ true
other_unnamed t u q [] ps other rest = rest
other_unnamed t u q (k ∷ l) ps other rest = and_from _ _ (not_same (eq_by_cmp bytes_cmp t u) (eq_by_cmp key_cmp q k) other)
    (other_unnamed t u q l ps other rest)

lower : (r : Ordering) → is_lt r ≡ true → is_eq r ≡ false
lower Less l = refl
lower Equal l = absurd (cc l)
lower Greater l = absurd (cc l)

later_unnamed : (ks : List Key) (t : List ℕ) (q : Key) (es : List (List ℕ × FinMap key_cmp Pending)) → below_all bytes_cmp t es ≡ true
    → is_unnamed (Pend t q) (taken_in ks es) ≡ true
later_unnamed ks t q [] below = refl
later_unnamed ks t q (e ∷ es) below =
    let both = and_parts (is_lt (bytes_cmp t e.0)) (below_all bytes_cmp t es) below in
    other_unnamed t e.0 q (filter (has_key ks) (keys e.1)) _ (lower (bytes_cmp t e.0) both.0) (later_unnamed ks t q es both.1)

-- No place is named twice.
taken_once : (ks : List Key) (es : List (List ℕ × FinMap key_cmp Pending)) → is_sorted bytes_cmp es ≡ true
    → is_once (taken_in ks es) ≡ true
taken_once ks [] rises = refl
taken_once ks (e ∷ es) rises =
    let both = and_parts (below_all bytes_cmp e.0 es) (is_sorted bytes_cmp es) rises in
    ap is_once (taken_both e.0 own rest) ∙ once-append (map (λ k. PendGone e.0 k) own) (taken_by rest)
    (gone_once e.0 own (IsStrictlySortedBy-filter key_cmp (has_key ks) (keys e.1) (keys_rise e.1 (keys e.1) refl))) (taken_once ks es both.1)
    (gone_apart e.0 own (taken_by rest) (λ k. later_unnamed ks e.0 k es both.0))
  where
    own : List Key
    own = filter (has_key ks) (keys e.1)

    rest : List Place
    rest = flat_map (λ e. map (λ k. (e.0, k)) (filter (has_key ks) (keys e.1))) es

taken_bare : (ps : List Place) → list_all has_bare_name (taken_by ps) ≡ true
taken_bare [] = refl
taken_bare (p ∷ ps) = taken_bare ps

taken_no_live : (ps : List Place) (k : Key) → is_unnamed (Live k) (taken_by ps) ≡ true
taken_no_live [] k = refl
taken_no_live (p ∷ ps) k = taken_no_live ps k

taken_no_weak : (ps : List Place) → is_unnamed TheWeak (taken_by ps) ≡ true
taken_no_weak [] = refl
taken_no_weak (p ∷ ps) = taken_no_weak ps

taken_apart : (ps : List Place) (es : List Entry) → ((t : List ℕ) (k : Key) → is_unnamed (Pend t k) es ≡ true) → are_apart (taken_by ps) es ≡ true
taken_apart [] es none = refl
taken_apart (p ∷ ps) es none = and_from _ _ (none p.0 p.1) (taken_apart ps es none)

taken_laid : (g : Held) (ps : List Place) → laid g (taken_by ps) ≡ record g { pending = fold (λ m p. without_value m p.0 p.1) g.pending ps }
taken_laid g [] = refl
taken_laid g (p ∷ ps) = taken_laid (laid_one g (PendGone p.0 p.1)) ps

-- They take away what is pending for the keys, and nothing else.
pub ended_all : (h : Held) (ks : List (List (List ℕ))) → EndsBy h (taken_by (pending_at h.pending ks)) (forgotten h ks).pending
ended_all h ks = record {
  once = taken_once ks (entries h.pending) (entries_rise h.pending);
  bare = taken_bare (pending_at h.pending ks);
  no_live = taken_no_live (pending_at h.pending ks);
  no_weak = taken_no_weak (pending_at h.pending ks);
  apart = taken_apart (pending_at h.pending ks);
  changes = all_taken_change h ks;
  gives = λ g same. taken_laid g (pending_at h.pending ks)
      ∙ ap (λ (m : Pendings). record g { pending = fold (λ n p. without_value n p.0 p.1) m (pending_at h.pending ks) }) same;
}

-- What is left in a transaction keeps the prefix rule.
pub left_free : (h : Held) (ks : List (List (List ℕ))) → ((t : List ℕ) → IsPrefixFree (inner h.pending t)) → (t : List ℕ)
    → IsPrefixFree (inner (forgotten h ks).pending t)
left_free h ks free t = record { alone = λ k q has other begins. (free t).alone k q (was k has) (was q other) begins } where
  there : (b : Bool) (x : Option Pending) → IsSome (if b then None else x) → IsSome x
  there true x has = absurd (cc has)
  there false x has = has

  was : (k : Key) → IsSome (value_at (forgotten h ks).pending t k) → IsSome (value_at h.pending t k)
  was k has = there (has_key ks k) (value_at h.pending t k) (subst IsSome (forgotten_pending h ks t k) has)

-- Removals put no key anywhere.
pub removals_fit : (h : Held) (ks : List (List (List ℕ))) → PutsFit h (last_of (removals ks))
removals_fit h ks = record { fits = λ k v has. absurd (none k v has); apart = λ k q v w has other begins. absurd (none k v has) } where
  no_put : (b : Bool) (v : _) → (if b then Some Gone else None) ≡ Some (Put v) → ⊥
  no_put true v e = absurd (cc e)
  no_put false v e = absurd (cc e)

  none : (k : Key) (v : _) → get (last_of (removals ks)) k ≡ Some (Put v) → ⊥
  none k v has = no_put (has_key ks k) v (sym (removed_at ks k) ∙ has)

-- A change that forgets keys.
pub record ForgetsTo (h : Held) (ks : List (List (List ℕ))) (es : List Entry) : Type 0 where
  pub once : is_once es ≡ true
  pub bare : list_all has_bare_name es ≡ true
  pub gives : laid h es ≡ forgotten h ks
  pub rule : KeepsPrefixRule h → KeepsPrefixRule (laid h es)
  pub weak : NamesWeak h es
  pub told : TellsWeak h es
  pub changes : NamesOnlyChanges h es

-- What lays the removals over the live values, and takes away what is pending, forgets the keys.
pub forget_made : (h : Held) (ks : List (List (List ℕ))) (pairs : List (List (List ℕ) × Pending)) (ended all : List Entry) → pairs ≡ removals ks
    → ended ≡ taken_by (pending_at h.pending ks) → IsContent h.live
    → CommitAdds h ended (keys (last_of pairs)) (changed_in h (last_of pairs)) (changes_in h (last_of pairs)) [] all → ForgetsTo h ks all
forget_made h ks pairs ended all is_pairs is_ended content adds = record {
  once = made.once;
  bare = made.bare;
  gives = made.gives;
  rule = λ rule. made.rule rule (removals_fit h ks) (left_free h ks rule.pending);
  weak = made.weak;
  told = made.told;
  changes = made.changes;
} where
  of_both : CommitAdds h (taken_by (pending_at h.pending ks)) (keys (last_of (removals ks))) (changed_in h (last_of (removals ks)))
      (changes_in h (last_of (removals ks))) [] all
  of_both = subst (λ (es : List Entry). CommitAdds h es (keys (last_of (removals ks))) (changed_in h (last_of (removals ks)))
      (changes_in h (last_of (removals ks))) [] all) is_ended
      (subst (λ (l : List (Key × Pending)). CommitAdds h ended (keys (last_of l)) (changed_in h (last_of l)) (changes_in h (last_of l)) [] all) is_pairs adds)

  made : CommitsTo h (last_of (removals ks)) (forgotten h ks).pending all
  made = whole_made h (last_of (removals ks)) (taken_by (pending_at h.pending ks)) (forgotten h ks).pending all (ended_all h ks) content of_both
