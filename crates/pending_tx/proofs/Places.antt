-- What is taken from a transaction, by its name.
use Rattle.std.proofs.Common.{◌≡◌, ℕ, List, [], ◌∷◌, ◌++◌, Option, Some, None, Bool, true, false, unwrap_or, refl, sym, ◌∙◌, ap, append-nil, subst}
use Rattle.std.specs.Prelude.{fold, map, filter, if◌then◌else◌}
use Rattle.std.specs.List.{flat_map}
use Rattle.std.specs.declared.cmp.Ordering.{Ordering}
use Rattle.std.specs.declared.cmp.Ordering.TheVariants.{Less, Equal, Greater}
use Rattle.std.specs.Ordering.{eq_by_cmp, is_eq, is_lt}
use Rattle.std.specs.FinMap.{FinMap, empty, get, insert, remove, entries, keys, find, is_sorted, get-entries}
use Rattle.std.specs.FinMap.Entries.{below_all}
use Rattle.std.proofs.lemmas.Bool.{and_parts, cond-true, cond-false}
use Rattle.std.proofs.lemmas.List.Elements.{filter-append}
use Rattle.key_names.specs.Order.{bytes_cmp, bytes_total, bytes_cmp-IsAntisymmetric, key_cmp}
use Rattle.json_trees.specs.declared.pending.Pending.{Pending}
use Rattle.settings_maps.specs.Maps.{inner, is_empty, with_inner, without_value}
use Rattle.settings_maps.specs.KeyList.{has_key}
use Rattle.settings_maps.proofs.NestedMaps.{tied_by, get-insert_same, get-insert_other, get-remove_same, get-remove_other}
use Rattle.settings_tree.proofs.Rising.{entries_rise}
use Rattle.settings_tree.specs.declared.held.Held.{Held}
use Rattle.pending_tx.specs.Transactions.{pending_at, forgotten}

abbrev Key : Type 0
Key = List (List ℕ)

abbrev Inner : Type 0
Inner = FinMap key_cmp Pending

abbrev pub Pendings : Type 0
Pendings = FinMap bytes_cmp Inner

-- The name of a transaction, and a key.
abbrev pub Place : Type 0
Place = List ℕ × Key

-- With nothing at this place.
abbrev pub without_place : Pendings → Place → Pendings
without_place m p = without_value m p.0 p.1

-- A transaction with these keys, if there are any.
abbrev left_of : Inner → Option Inner
left_of i = if is_empty i then None else Some i

module _ (tx : List ℕ) where
  abbrev pub is_here : Place → Bool
  is_here p = eq_by_cmp bytes_cmp tx p.0

  at_same : (m : Pendings) (i : Inner) → get (with_inner m tx i) tx ≡ left_of i
  at_same m i = by (is_empty i) where
    by : (b : Bool) → get (if b then remove m tx else insert m tx i) tx ≡ (if b then None else Some i)
    by true = get-remove_same bytes_total m tx
    by false = get-insert_same bytes_total m tx i

  at_other : (m : Pendings) (t : List ℕ) (i : Inner) → eq_by_cmp bytes_cmp tx t ≡ false → get (with_inner m t i) tx ≡ get m tx
  at_other m t i other = by (is_empty i) where
    by : (b : Bool) → get (if b then remove m t else insert m t i) tx ≡ get m tx
    by true = get-remove_other bytes_total m t tx other
    by false = get-insert_other bytes_total m t tx i other

  here : (t : List ℕ) → eq_by_cmp bytes_cmp tx t ≡ true → tx ≡ t
  here t e = bytes_cmp-IsAntisymmetric tx t (tied_by (bytes_cmp tx t) e)

  step_same : (m n : Pendings) (p : Place) → tx ≡ p.0 → get m tx ≡ get n tx → get (without_place m p) tx ≡ get (without_place n p) tx
  step_same m n p is same = subst (λ (t : List ℕ). get (without_value m t p.1) tx ≡ get (without_value n t p.1) tx) is
      (at_same m (remove (inner m tx) p.1)
      ∙ ap (λ (o : Option Inner). left_of (remove (unwrap_or o empty) p.1)) same
      ∙ sym (at_same n (remove (inner n tx) p.1)))

  -- Of the places those of the transaction alone count for what it has.
  only_here : (ps : List Place) (m n : Pendings) → get m tx ≡ get n tx
      → get (fold without_place m ps) tx ≡ get (fold without_place n (filter is_here ps)) tx
  only_here [] m n same = same
  only_here (p ∷ ps) m n same = by (λ o same'. only_here ps (without_place m p) o same') (is_here p) refl where
    by : ((o : Pendings) → get (without_place m p) tx ≡ get o tx
        → get (fold without_place (without_place m p) ps) tx ≡ get (fold without_place o (filter is_here ps)) tx)
        → (b : Bool) → is_here p ≡ b
        → get (fold without_place (without_place m p) ps) tx ≡ get (fold without_place n (if b then p ∷ filter is_here ps else filter is_here ps)) tx
    by rest true e = rest (without_place n p) (step_same m n p (here p.0 e) same)
    by rest false e = rest n (at_other m p.0 (remove (inner m p.0) p.1) e ∙ same)

  module _ (ks : List Key) where
    abbrev pub places : List ℕ × Inner → List Place
    places t = map (λ k. (t.0, k)) (filter (has_key ks) (keys t.1))

    -- The places of a transaction, if it is there.
    abbrev pub places_of : Option Inner → List Place
    places_of None = []
    places_of (Some i) = places (tx, i)

    all_here : (t : List ℕ) (l : List Key) → eq_by_cmp bytes_cmp tx t ≡ true → filter is_here (map (λ k. (t, k)) l) ≡ map (λ k. (t, k)) l
    all_here t [] e = refl
    all_here t (k ∷ l) e = cond-true _ _ _ e ∙ ap (λ (r : List Place). (t, k) ∷ r) (all_here t l e)

    none_here : (t : List ℕ) (l : List Key) → eq_by_cmp bytes_cmp tx t ≡ false → filter is_here (map (λ k. (t, k)) l) ≡ []
    none_here t [] e = refl
    none_here t (k ∷ l) e = cond-false _ _ _ e ∙ none_here t l e

    not_found : (t : List ℕ) (es : List (List ℕ × Inner)) → tx ≡ t → below_all bytes_cmp t es ≡ true → find bytes_cmp tx es ≡ None
    not_found t [] same below = refl
    not_found t (e ∷ es) same below =
        let both = and_parts (is_lt (bytes_cmp t e.0)) (below_all bytes_cmp t es) below in
        cond-false _ _ _ (ap (λ (z : List ℕ). eq_by_cmp bytes_cmp z e.0) same ∙ less (bytes_cmp t e.0) both.0) ∙ not_found t es same both.1
      where
        less : (r : Ordering) → is_lt r ≡ true → is_eq r ≡ false
        less Less l = refl
        less Equal l = absurd (cc l)
        less Greater l = absurd (cc l)

    found_here : (es : List (List ℕ × Inner)) → is_sorted bytes_cmp es ≡ true
        → filter is_here (flat_map places es) ≡ places_of (find bytes_cmp tx es)
    found_here [] sorted = refl
    found_here (e ∷ es) sorted =
        let both = and_parts (below_all bytes_cmp e.0 es) (is_sorted bytes_cmp es) sorted in
        filter-append is_here (places e) (flat_map places es) ∙ by both.0 (found_here es both.1) (eq_by_cmp bytes_cmp tx e.0) refl
      where
        own : List Key
        own = filter (has_key ks) (keys e.1)

        by : below_all bytes_cmp e.0 es ≡ true → filter is_here (flat_map places es) ≡ places_of (find bytes_cmp tx es)
            → (b : Bool) → eq_by_cmp bytes_cmp tx e.0 ≡ b
            → filter is_here (places e) ++ filter is_here (flat_map places es) ≡ places_of (if b then Some e.1 else find bytes_cmp tx es)
        by below rest true is =
            ap (λ (l : List Place). filter is_here (places e) ++ l) (rest ∙ ap places_of (not_found e.0 es (here e.0 is) below))
            ∙ append-nil (filter is_here (places e)) ∙ all_here e.0 own is ∙ ap (λ (t : List ℕ). map (λ k. (t, k)) own) (sym (here e.0 is))
        by below rest false is = ap (λ (l : List Place). l ++ filter is_here (flat_map places es)) (none_here e.0 own is) ∙ rest

    -- The places that are taken from the transaction are told by what it has alone.
    pub pending_here : (m : Pendings) → filter is_here (pending_at m ks) ≡ places_of (get m tx)
    pending_here m = found_here (entries m) (entries_rise m) ∙ ap places_of (sym (get-entries m tx))

    -- Of the places that are taken those of the transaction count for what it has.
    pub places_taken : (m : Pendings) → get (fold without_place m (pending_at m ks)) tx ≡ get (fold without_place m (places_of (get m tx))) tx
    places_taken m = only_here (pending_at m ks) m m refl ∙ ap (λ (l : List Place). get (fold without_place m l) tx) (pending_here m)

    -- What a transaction has after keys are forgotten is told by what it has before alone.
    pub forgotten_alike : (h g : Held) → get h.pending tx ≡ get g.pending tx → get (forgotten h ks).pending tx ≡ get (forgotten g ks).pending tx
    forgotten_alike h g same =
        only_here (pending_at h.pending ks) h.pending g.pending same
        ∙ ap (λ (l : List Place). get (fold without_place g.pending l) tx) (pending_here h.pending ∙ ap places_of same ∙ sym (pending_here g.pending))
        ∙ sym (only_here (pending_at g.pending ks) g.pending g.pending refl)
