-- The lists of the metadata, from one key to the next.
use Rattle.std.proofs.Common.{◌≡◌, ◌++◌, Bool, true, false, T, ℕ, List, [], ◌∷◌, Option, Some, None, refl, sym, ◌∙◌, ap, append_assoc}
use Rattle.std.specs.FinMap.{FinMap, get, entries, entries_sorted, is_sorted}
use Rattle.std.specs.FinMap.Entries.{below_all}
use Rattle.std.specs.Ordering.{is_lt}
use Rattle.std.proofs.lemmas.Bool.{and_parts, and_from}
use Rattle.std.specs.List.{flat_map}
use Rattle.key_names.specs.Order.{bytes_cmp, key_cmp}
use Rattle.json_trees.specs.declared.scalar.Scalar.{Scalar}
use Rattle.metadata_links.specs.Faults.{first_of}
use Rattle.metadata_links.specs.Lists.{affected_services, lists_at, lists_of, lists_in}
use Rattle.metadata_links.proofs.Filtered.{sound, sorted_sound}
use Rattle.metadata_links.proofs.Rests.{first_left}

-- What is made of two lists is made of the one and of the other.
pub flat_both : {X E : Type 0} (f : X → List E) (xs ys : List X) → flat_map f (xs ++ ys) ≡ flat_map f xs ++ flat_map f ys
flat_both f [] ys = refl
flat_both f (x ∷ xs) ys = ap (λ l. f x ++ l) (flat_both f xs ys) ∙ sym (append_assoc (f x) (flat_map f xs) (flat_map f ys))

-- The next key has its list, if it has one.
pub lists_next : (k : List (List ℕ)) (names : FinMap bytes_cmp Scalar) (left rest : List (List (List ℕ) × FinMap bytes_cmp Scalar)) (o : Option Scalar)
    → left ≡ (k, names) ∷ rest → o ≡ get names affected_services → lists_of left ≡ lists_at k o ++ lists_of rest
lists_next k names left rest o is found = ap lists_of is ∙ ap (λ v. lists_at k v ++ lists_of rest) (sym found)

-- ---- the order of the lists

below_lists : (k : List (List ℕ)) (es : List (List (List ℕ) × FinMap bytes_cmp Scalar)) → below_all key_cmp k es ≡ true
    → below_all key_cmp k (lists_of es) ≡ true
below_lists k [] below = refl
below_lists k (e ∷ es) below = let both = and_parts (is_lt (key_cmp k e.0)) (below_all key_cmp k es) below in
    by (get e.1 affected_services) both.0 (below_lists k es both.1) where
      by : (o : Option Scalar) → is_lt (key_cmp k e.0) ≡ true → below_all key_cmp k (lists_of es) ≡ true
          → below_all key_cmp k (lists_at e.0 o ++ lists_of es) ≡ true
      by None here rest = rest
      by (Some v) here rest = and_from _ _ here rest

sorted_lists : (es : List (List (List ℕ) × FinMap bytes_cmp Scalar)) → is_sorted key_cmp es ≡ true → is_sorted key_cmp (lists_of es) ≡ true
sorted_lists [] rises = refl
sorted_lists (e ∷ es) rises = let both = and_parts (below_all key_cmp e.0 es) (is_sorted key_cmp es) rises in
    by (get e.1 affected_services) (below_lists e.0 es both.0) (sorted_lists es both.1) where
      by : (o : Option Scalar) → below_all key_cmp e.0 (lists_of es) ≡ true → is_sorted key_cmp (lists_of es) ≡ true
          → is_sorted key_cmp (lists_at e.0 o ++ lists_of es) ≡ true
      by None here rest = rest
      by (Some v) here rest = and_from _ _ here rest

of_T : (b : Bool) → T b → b ≡ true
of_T true holds = refl
of_T false holds = absurd holds

-- The lists that were read rise by key.
pub lists_rise : (m : FinMap key_cmp (FinMap bytes_cmp Scalar)) (es : List (List (List ℕ) × List (List ℕ))) → sound es ≡ lists_in m
    → is_sorted key_cmp es ≡ true
lists_rise m es are = sym (sorted_sound key_cmp es) ∙ ap (is_sorted key_cmp) are ∙ sorted_lists (entries m) (of_T _ (entries_sorted m))

-- The lists that are read, with what is left.
pub read_more : {E : Type 0} (all done now one left rest : List E) → left ≡ one ++ rest → now ≡ done ++ one → done ++ left ≡ all → now ++ rest ≡ all
read_more all done now one left rest is put whole = ap (λ l. l ++ rest) put ∙ append_assoc done one rest ∙ ap (λ l. done ++ l) (sym is) ∙ whole

-- A list without a fault leaves the faults to the others.
pub sound_more : {X E : Type 0} (f : X → List E) (one left rest : List X) (all : List E) → left ≡ one ++ rest → flat_map f one ≡ [] → flat_map f left ≡ all
    → flat_map f rest ≡ all
sound_more f one left rest all is sound whole = ap (λ l. l ++ flat_map f rest) (sym sound) ∙ sym (flat_both f one rest) ∙ sym (ap (flat_map f) is) ∙ whole

-- And one with a fault has the first.
pub fault_first : {X E : Type 0} (f : X → List E) (one left rest : List X) (all : List E) (e : E) → left ≡ one ++ rest → first_of (flat_map f one) ≡ Some e
    → flat_map f left ≡ all → first_of all ≡ Some e
fault_first f one left rest all e is first whole = ap first_of (sym whole ∙ ap (flat_map f) is ∙ flat_both f one rest)
    ∙ first_left (flat_map f one) (flat_map f rest) e first
