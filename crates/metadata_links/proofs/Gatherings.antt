-- The fields of names, gathered from a walk through values, are what is at their keys.
use Rattle.std.proofs.Common.{arith, ◌≡◌, ◌≢◌, ℕ, List, [], ◌∷◌, cond, map, filter, fold, Option}
use Rattle.std.proofs.Common.{Some, None, is_some, unwrap_or, Bool, true, false, T, refl, sym, ◌∙◌, ap, subst}
use Rattle.std.specs.Prelude.{◌||◌, ◌&&◌}
use Rattle.std.specs.Str.{bytes_eq}
use Rattle.std.specs.declared.cmp.Ordering.{Ordering}
use Rattle.std.specs.declared.cmp.Ordering.TheVariants.{Less, Equal, Greater}
use Rattle.std.specs.Ordering.{eq_by_cmp, is_eq, is_lt}
use Rattle.std.specs.List.{list_any, filter_map, AllByRecursion}
use Rattle.std.specs.List.Sorted.{IsStrictlySortedBy}
use Rattle.std.proofs.lemmas.Map.Keys.{sorted_head, sorted_tail}
use Rattle.std.specs.FinMap.{FinMap, contains_key, remove, empty, get, find, entries, entries_sorted, from_entries, from_sorted}
use Rattle.std.specs.FinMap.{is_sorted, same_map, get-insert, get-remove, get-empty}
use Rattle.std.specs.FinMap.{get-entries, get-from_entries, get-from_sorted, entries-from_sorted, contains_key-keys}
use Rattle.std.specs.FinMap.Entries.{below_all}
use Rattle.std.specs.Option.{option_or}
use Rattle.std.proofs.lemmas.Bool.{and_parts, and_from, cond-true, cond-false, false_from_ne_true}
use Rattle.std.proofs.lemmas.Cmp.{tied_itself}
use Rattle.std.proofs.lemmas.Slice.Eq.{bytes_eq-Decides}
use Rattle.key_names.specs.Key.{is_prefix}
use Rattle.key_names.specs.Order.{bytes_cmp, bytes_total, bytes_cmp-IsAntisymmetric, key_cmp, key_total, key_cmp-IsAntisymmetric}
use Rattle.json_trees.specs.declared.scalar.Scalar.{Scalar}
use Rattle.settings_tree.specs.Walks.{entries_below}
use Rattle.metadata_links.specs.Fields.{name_in, names_below, fields_at, fields_below}
use Rattle.metadata_links.specs.Gathered.{no_fields, fields_of, with_field, with_named, with_value}
use Rattle.metadata_links.specs.Rising.{set_of}
use Rattle.metadata_links.specs.declared.fields.Fields.{Fields}
use Rattle.metadata_links.proofs.Sets.{contains-set_of}

abbrev Pairs : Type 0
Pairs = List (List (List ℕ) × Scalar)

abbrev Found : Type 0
Found = FinMap bytes_cmp Fields

equal : (r : Ordering) → is_eq r ≡ true → r ≡ Equal
equal Less eq = absurd (grind arith)
equal Equal eq = refl
equal Greater eq = absurd (grind arith)

less : (r : Ordering) → is_lt r ≡ true → r ≡ Less
less Less lt = refl
less Equal lt = absurd (grind arith)
less Greater lt = absurd (grind arith)

of_T : (b : Bool) → T b → b ≡ true
of_T true holds = refl
of_T false holds = absurd holds

T_of : (b : Bool) → b ≡ true → T b
T_of b holds = subst T (sym holds) tt

same_name : (a b : List ℕ) → eq_by_cmp bytes_cmp a b ≡ true → a ≡ b
same_name a b is = bytes_cmp-IsAntisymmetric a b (equal _ is)

same_key : (p q : List (List ℕ)) → eq_by_cmp key_cmp p q ≡ true → p ≡ q
same_key p q is = key_cmp-IsAntisymmetric p q (equal _ is)

tied_key : (p q : List (List ℕ)) → p ≡ q → eq_by_cmp key_cmp p q ≡ true
tied_key p q is = ap (eq_by_cmp key_cmp p) (sym is) ∙ ap is_eq (tied_itself key_total p)

tied_name : (a b : List ℕ) → a ≡ b → eq_by_cmp bytes_cmp a b ≡ true
tied_name a b is = ap (eq_by_cmp bytes_cmp a) (sym is) ∙ ap is_eq (tied_itself bytes_total a)

eq_itself : (a b : List ℕ) → a ≡ b → bytes_eq a b ≡ true
eq_itself a b is = (bytes_eq-Decides a b).1 is

-- ---- one value more

module _ (first one other g : List ℕ) (P : Fields → Option Scalar) (law : (f : List ℕ) (v : Scalar) (fields : Fields)
    → P (with_field one other f v fields) ≡ cond (bytes_eq f g) (Some v) (P fields)) where
  -- A value in a field of a name is the value there, and the others stay.
  named_step : (m : Found) (a n' f n : List ℕ) (v : Scalar) → first ≡ a → P (fields_of (with_named one other n' f v m) n) ≡ cond
      (eq_by_cmp key_cmp (first ∷ n ∷ g ∷ []) (a ∷ n' ∷ f ∷ [])) (Some v) (P (fields_of m n))
  named_step m a n' f n v same = by (eq_by_cmp bytes_cmp n n') refl (bytes_eq f g) refl where
    y : Fields
    y = with_field one other f v (fields_of m n')

    at : get (with_named one other n' f v m) n ≡ cond (eq_by_cmp bytes_cmp n n') (Some y) (cond (eq_by_cmp bytes_cmp n n') None (get m n))
    at = get-insert bytes_total (remove m n') n' y n ∙ ap (cond (eq_by_cmp bytes_cmp n n') (Some y)) (get-remove bytes_total m n' n)

    Goal : Type 0
    Goal = P (fields_of (with_named one other n' f v m) n) ≡ cond (eq_by_cmp key_cmp (first ∷ n ∷ g ∷ []) (a ∷ n' ∷ f ∷ [])) (Some v) (P (fields_of m n))

    apart : ((first ∷ n ∷ g ∷ []) ≡ (a ∷ n' ∷ f ∷ []) → ⊥) → eq_by_cmp key_cmp (first ∷ n ∷ g ∷ []) (a ∷ n' ∷ f ∷ []) ≡ false
    apart differs = false_from_ne_true _ (λ is. differs (same_key _ _ is))

    by : (b : Bool) → eq_by_cmp bytes_cmp n n' ≡ b → (c : Bool) → bytes_eq f g ≡ c → Goal
    by true is true told =
        let name : n ≡ n' = same_name n n' is in
        let field : f ≡ g = (bytes_eq-Decides f g).0 told in
        let key : (first ∷ n ∷ g ∷ []) ≡ (a ∷ n' ∷ f ∷ []) = cc in
        ap (λ o. P (unwrap_or o no_fields)) (at ∙ cond-true _ _ _ is) ∙ law f v (fields_of m n') ∙ cond-true _ _ _ told
        ∙ sym (cond-true _ _ _ (tied_key _ _ key))
    by true is false told =
        let name : n ≡ n' = same_name n n' is in
        ap (λ o. P (unwrap_or o no_fields)) (at ∙ cond-true _ _ _ is) ∙ law f v (fields_of m n') ∙ cond-false _ _ _ told
        ∙ ap (λ z. P (fields_of m z)) (sym name)
        ∙ sym (cond-false _ _ _ (apart (λ key. let field : f ≡ g = cc in absurd (cc (told, eq_itself f g field)))))
    by false is c told =
        ap (λ o. P (unwrap_or o no_fields)) (at ∙ cond-false _ _ _ is ∙ cond-false _ _ _ is)
        ∙ sym (cond-false _ _ _ (apart (λ key. let name : n ≡ n' = cc in absurd (cc (is, tied_name n n' name)))))

  first_is : (a : List ℕ) (rest : List (List ℕ)) → is_prefix (first ∷ []) (a ∷ rest) ≡ true → first ≡ a
  first_is a rest begins = same_name first a ((and_parts (eq_by_cmp bytes_cmp first a) true begins).0)

  value_step : (m : Found) (k : List (List ℕ)) (n : List ℕ) (v : Scalar) → is_prefix (first ∷ []) k ≡ true
      → P (fields_of (with_value one other m (k, v)) n) ≡ cond (eq_by_cmp key_cmp (first ∷ n ∷ g ∷ []) k) (Some v) (P (fields_of m n))
  value_step m [] n v begins = refl
  value_step m (a ∷ []) n v begins = sym (cond-false _ _ _ (false_from_ne_true _
      (λ is. let key : (first ∷ n ∷ g ∷ []) ≡ (a ∷ []) = same_key _ _ is in absurd (cc key))))
  value_step m (a ∷ b ∷ []) n v begins = sym (cond-false _ _ _ (false_from_ne_true _
      (λ is. let key : (first ∷ n ∷ g ∷ []) ≡ (a ∷ b ∷ []) = same_key _ _ is in absurd (cc key))))
  value_step m (a ∷ b ∷ c ∷ []) n v begins = named_step m a b c n v (first_is a (b ∷ c ∷ []) begins)
  value_step m (a ∷ b ∷ c ∷ d ∷ k) n v begins = sym (cond-false _ _ _ (false_from_ne_true _
      (λ is. let key : (first ∷ n ∷ g ∷ []) ≡ (a ∷ b ∷ c ∷ d ∷ k) = same_key _ _ is in absurd (cc key))))

  none_above : (es : Pairs) (k : List (List ℕ)) → below_all key_cmp k es ≡ true → find key_cmp k es ≡ None
  none_above [] k below = refl
  none_above (e ∷ es) k below =
      let both = and_parts (is_lt (key_cmp k e.0)) (below_all key_cmp k es) below in
      cond-false _ _ _ (ap is_eq (less (key_cmp k e.0) both.0)) ∙ none_above es k both.1

  -- So after all values, each name has in the field what is at its key.
  all_steps : (pairs : Pairs) (m : Found) (n : List ℕ) → is_sorted key_cmp pairs ≡ true
      → ((q : List (List ℕ)) → list_any (λ e. eq_by_cmp key_cmp q e.0) pairs ≡ true → is_prefix (first ∷ []) q ≡ true)
      → P (fields_of (fold (with_value one other) m pairs) n) ≡ option_or (find key_cmp (first ∷ n ∷ g ∷ []) pairs) (P (fields_of m n))
  all_steps [] m n rises begin = refl
  all_steps ((k, v) ∷ pairs) m n rises begin = by (eq_by_cmp key_cmp (first ∷ n ∷ g ∷ []) k) refl
      (all_steps pairs (with_value one other m (k, v)) n sorted.1 (λ q has. begin q (later q has))) where
        sorted : (below_all key_cmp k pairs ≡ true) × (is_sorted key_cmp pairs ≡ true)
        sorted = and_parts (below_all key_cmp k pairs) (is_sorted key_cmp pairs) rises

        later : (q : List (List ℕ)) → list_any (λ e. eq_by_cmp key_cmp q e.0) pairs ≡ true
            → (eq_by_cmp key_cmp q k || list_any (λ e. eq_by_cmp key_cmp q e.0) pairs) ≡ true
        later q has = or_right (eq_by_cmp key_cmp q k) _ has where
          or_right : (a b : Bool) → b ≡ true → (a || b) ≡ true
          or_right true b h = refl
          or_right false b h = h

        step : P (fields_of (with_value one other m (k, v)) n) ≡ cond (eq_by_cmp key_cmp (first ∷ n ∷ g ∷ []) k) (Some v) (P (fields_of m n))
        step = value_step m k n v (begin k (ap (λ b. b || list_any (λ e. eq_by_cmp key_cmp k e.0) pairs) (tied_key k k refl)))

        by : (b : Bool) → eq_by_cmp key_cmp (first ∷ n ∷ g ∷ []) k ≡ b
            → P (fields_of (fold (with_value one other) (with_value one other m (k, v)) pairs) n) ≡ option_or (find key_cmp (first ∷ n ∷ g ∷ []) pairs)
            (P (fields_of (with_value one other m (k, v)) n))
            → P (fields_of (fold (with_value one other) m ((k, v) ∷ pairs)) n) ≡ option_or (find key_cmp (first ∷ n ∷ g ∷ []) ((k, v) ∷ pairs))
            (P (fields_of m n))
        by true is rest =
            let here : (first ∷ n ∷ g ∷ []) ≡ k = same_key _ _ is in
            rest ∙ ap (λ o. option_or o (P (fields_of (with_value one other m (k, v)) n))) (ap (λ q. find key_cmp q pairs) here ∙ none_above pairs k sorted.0)
            ∙ step ∙ cond-true _ _ _ is
            ∙ sym (ap (λ o. option_or o (P (fields_of m n))) (cond-true _ (Some v) (find key_cmp (first ∷ n ∷ g ∷ []) pairs) is))
        by false is rest =
            rest ∙ ap (option_or (find key_cmp (first ∷ n ∷ g ∷ []) pairs)) (step ∙ cond-false _ _ _ is)
            ∙ sym (ap (λ o. option_or o (P (fields_of m n))) (cond-false _ (Some v) (find key_cmp (first ∷ n ∷ g ∷ []) pairs) is))

-- ---- the names

module _ (one other : List ℕ) where
  or_cond : (a b : Bool) (x : Fields) (o : Option Fields) → is_some (cond a (Some x) (cond a None o)) ≡ (a || is_some o)
  or_cond true b x o = refl
  or_cond false b x o = refl

  named_has : (m : Found) (n' f n : List ℕ) (v : Scalar) → contains_key (with_named one other n' f v m) n ≡ (eq_by_cmp bytes_cmp n n' || contains_key m n)
  named_has m n' f n v = ap is_some (get-insert bytes_total (remove m n') n' _ n
      ∙ ap (cond (eq_by_cmp bytes_cmp n n') (Some _)) (get-remove bytes_total m n' n)) ∙ or_cond (eq_by_cmp bytes_cmp n n') true _ (get m n)

  or_swap : (a b c : Bool) → (a || (b || c)) ≡ ((b || a) || c)
  or_swap true true c = refl
  or_swap true false c = refl
  or_swap false true c = refl
  or_swap false false c = refl

  -- A name is there where a key of three segments has it, or it was there.
  all_names : (pairs : Pairs) (m : Found) (n : List ℕ) → contains_key (fold (with_value one other) m pairs) n ≡
      (list_any (eq_by_cmp bytes_cmp n) (filter_map (λ e. name_in e.0) pairs) || contains_key m n)
  all_names [] m n = refl
  all_names (([], v) ∷ pairs) m n = all_names pairs m n
  all_names ((a ∷ [], v) ∷ pairs) m n = all_names pairs m n
  all_names ((a ∷ b ∷ [], v) ∷ pairs) m n = all_names pairs m n
  all_names ((a ∷ b ∷ c ∷ [], v) ∷ pairs) m n = all_names pairs (with_named one other b c v m) n
      ∙ ap (λ x. list_any (eq_by_cmp bytes_cmp n) (filter_map (λ e. name_in e.0) pairs) || x) (named_has m b c n v)
      ∙ or_swap (list_any (eq_by_cmp bytes_cmp n) (filter_map (λ e. name_in e.0) pairs)) (eq_by_cmp bytes_cmp n b) (contains_key m n)
  all_names ((a ∷ b ∷ c ∷ d ∷ k, v) ∷ pairs) m n = all_names pairs m n

-- ---- the entries

module _ {X : Type 0} (F : List ℕ → X) where
  below_made : (k : List ℕ) {Y : Type 0} (es : List (List ℕ × Y)) → below_all bytes_cmp k es ≡ true
      → below_all bytes_cmp k (map (λ n. (n, F n)) (map (λ e. e.0) es)) ≡ true
  below_made k [] below = refl
  below_made k (e ∷ es) below = let both = and_parts (is_lt (bytes_cmp k e.0)) (below_all bytes_cmp k es) below in and_from _ _ both.0 (below_made k es both.1)

  sorted_made : {Y : Type 0} (es : List (List ℕ × Y)) → is_sorted bytes_cmp es ≡ true → is_sorted bytes_cmp (map (λ n. (n, F n)) (map (λ e. e.0) es)) ≡ true
  sorted_made [] rises = refl
  sorted_made (e ∷ es) rises = let both = and_parts (below_all bytes_cmp e.0 es) (is_sorted bytes_cmp es) rises in
      and_from _ _ (below_made e.0 es both.0) (sorted_made es both.1)

  find_made : (q : List ℕ) (names : List (List ℕ)) → find bytes_cmp q (map (λ n. (n, F n)) names) ≡ cond (list_any (eq_by_cmp bytes_cmp q) names) (Some (F q))
      None
  find_made q [] = refl
  find_made q (n ∷ names) = by (eq_by_cmp bytes_cmp q n) refl (find_made q names) where
    by : (b : Bool) → eq_by_cmp bytes_cmp q n ≡ b → find bytes_cmp q (map (λ n. (n, F n)) names) ≡ cond (list_any (eq_by_cmp bytes_cmp q) names) (Some (F q))
        None → find bytes_cmp q (map (λ n. (n, F n)) (n ∷ names)) ≡ cond (list_any (eq_by_cmp bytes_cmp q) (n ∷ names)) (Some (F q)) None
    by true is rest = cond-true _ _ _ is ∙ ap (λ z. Some (F z)) (sym (same_name q n is))
        ∙ sym (cond-true _ _ _ (ap (λ b. b || list_any (eq_by_cmp bytes_cmp q) names) is))
    by false is rest = cond-false _ _ _ is ∙ rest ∙ ap (λ b. cond b (Some (F q)) None) (sym (ap (λ b. b || list_any (eq_by_cmp bytes_cmp q) names) is))

given : (o : Option Fields) (b : Bool) (x : Fields) → is_some o ≡ b → unwrap_or o no_fields ≡ x → o ≡ cond b (Some x) None
given None b x is same = ap (λ b. cond b (Some x) None) is
given (Some y) b x is same = ap Some same ∙ ap (λ b. cond b (Some x) None) is

-- Entries in order, seen as a map, are the entries of the map.
pub entries-seen : {X : Type 0} (es : List (List ℕ × X)) → is_sorted bytes_cmp es ≡ true → entries (from_entries {R = bytes_cmp} es) ≡ es
entries-seen {X} es rises = ap entries same ∙ entries-from_sorted bytes_cmp es (T_of _ rises) where
  same : from_entries {R = bytes_cmp} es ≡ from_sorted es
  same = same_map bytes_total bytes_cmp-IsAntisymmetric _ _ (λ q. get-from_entries bytes_total es q ∙ sym (get-from_sorted bytes_cmp es q (T_of _ rises)))

module _ (values : FinMap key_cmp Scalar) (first one other : List ℕ) (differ : one ≢ other) where
  below_some : (p : List (List ℕ) → Bool) (k : List (List ℕ)) (es : Pairs) → below_all key_cmp k es ≡ true → below_all key_cmp k (filter (λ e. p e.0) es) ≡ true
  below_some p k [] below = refl
  below_some p k (e ∷ es) below =
      let both = and_parts (is_lt (key_cmp k e.0)) (below_all key_cmp k es) below in
      by (p e.0) both.0 (below_some p k es both.1)
    where
      by : (b : Bool) → is_lt (key_cmp k e.0) ≡ true → below_all key_cmp k (filter (λ e. p e.0) es) ≡ true
          → below_all key_cmp k (cond b (e ∷ filter (λ e. p e.0) es) (filter (λ e. p e.0) es)) ≡ true
      by true here rest = and_from _ _ here rest
      by false here rest = rest

  sorted_some : (p : List (List ℕ) → Bool) (es : Pairs) → is_sorted key_cmp es ≡ true → is_sorted key_cmp (filter (λ e. p e.0) es) ≡ true
  sorted_some p [] rises = refl
  sorted_some p (e ∷ es) rises =
      let both = and_parts (below_all key_cmp e.0 es) (is_sorted key_cmp es) rises in
      by (p e.0) (below_some p e.0 es both.0) (sorted_some p es both.1)
    where
      by : (b : Bool) → below_all key_cmp e.0 (filter (λ e. p e.0) es) ≡ true → is_sorted key_cmp (filter (λ e. p e.0) es) ≡ true
          → is_sorted key_cmp (cond b (e ∷ filter (λ e. p e.0) es) (filter (λ e. p e.0) es)) ≡ true
      by true here rest = and_from _ _ here rest
      by false here rest = rest

  pairs_sorted : is_sorted key_cmp (entries_below values (first ∷ [])) ≡ true
  pairs_sorted = sorted_some (is_prefix (first ∷ [])) (entries values) (of_T _ (entries_sorted values))

  -- What is in the filtered list passes the test.
  passes : (p : List (List ℕ) → Bool) (es : Pairs) (q : List (List ℕ)) → list_any (λ e. eq_by_cmp key_cmp q e.0) (filter (λ e. p e.0) es) ≡ true → p q ≡ true
  passes p [] q has = absurd (cc has)
  passes p (e ∷ es) q has = by (p e.0) refl (λ later. passes p es q later) has where
    either : (c : Bool) → eq_by_cmp key_cmp q e.0 ≡ c → p e.0 ≡ true → (list_any (λ e. eq_by_cmp key_cmp q e.0) (filter (λ e. p e.0) es) ≡ true → p q ≡ true)
        → (c || list_any (λ e. eq_by_cmp key_cmp q e.0) (filter (λ e. p e.0) es)) ≡ true → p q ≡ true
    either true tie is rest has = ap p (same_key q e.0 tie) ∙ is
    either false tie is rest has = rest has

    by : (b : Bool) → p e.0 ≡ b → (list_any (λ e. eq_by_cmp key_cmp q e.0) (filter (λ e. p e.0) es) ≡ true → p q ≡ true)
        → list_any (λ e. eq_by_cmp key_cmp q e.0) (cond b (e ∷ filter (λ e. p e.0) es) (filter (λ e. p e.0) es)) ≡ true → p q ≡ true
    by false is rest has = rest has
    by true is rest has = either (eq_by_cmp key_cmp q e.0) refl is rest has

  find_some : (p : List (List ℕ) → Bool) (es : Pairs) (q : List (List ℕ)) → p q ≡ true → find key_cmp q (filter (λ e. p e.0) es) ≡ find key_cmp q es
  find_some p [] q passed = refl
  find_some p (e ∷ es) q passed = by (p e.0) refl (eq_by_cmp key_cmp q e.0) refl (find_some p es q passed) where
    by : (b : Bool) → p e.0 ≡ b → (c : Bool) → eq_by_cmp key_cmp q e.0 ≡ c → find key_cmp q (filter (λ e. p e.0) es) ≡ find key_cmp q es
        → find key_cmp q (cond (p e.0) (e ∷ filter (λ e. p e.0) es) (filter (λ e. p e.0) es)) ≡ cond (eq_by_cmp key_cmp q e.0) (Some e.1) (find key_cmp q es)
    by true is c tie rest = ap (find key_cmp q) (cond-true _ _ _ is) ∙ ap (cond (eq_by_cmp key_cmp q e.0) (Some e.1)) rest
    by false is true tie rest = absurd (cc (is, ap p (sym (same_key q e.0 tie)) ∙ passed))
    by false is false tie rest = ap (find key_cmp q) (cond-false _ _ _ is) ∙ rest ∙ sym (cond-false _ _ _ tie)

  or_none : (o : Option Scalar) → option_or o None ≡ o
  or_none None = refl
  or_none (Some x) = refl

  -- What a field has is what is at its key.
  field_is : (g : List ℕ) (P : Fields → Option Scalar) → ((f : List ℕ) (v : Scalar) (fields : Fields)
      → P (with_field one other f v fields) ≡ cond (bytes_eq f g) (Some v) (P fields)) → P no_fields ≡ None → (n : List ℕ)
      → P (fields_of (fold (with_value one other) empty (entries_below values (first ∷ []))) n) ≡ get values (first ∷ n ∷ g ∷ [])
  field_is g P law none n =
      all_steps first one other g P law (entries_below values (first ∷ [])) empty n pairs_sorted (passes (is_prefix (first ∷ [])) (entries values))
      ∙ ap (option_or (find key_cmp (first ∷ n ∷ g ∷ []) (entries_below values (first ∷ []))))
      (ap (λ o. P (unwrap_or o no_fields)) (get-empty bytes_cmp n) ∙ none)
      ∙ or_none _
      ∙ find_some (is_prefix (first ∷ [])) (entries values) (first ∷ n ∷ g ∷ []) (ap (λ b. b && true) (tied_name first first refl))
      ∙ sym (get-entries values (first ∷ n ∷ g ∷ []))

  law_one : (f : List ℕ) (v : Scalar) (fields : Fields) → (with_field one other f v fields).one ≡ cond (bytes_eq f one) (Some v) fields.one
  law_one f v fields = by (bytes_eq f one) (bytes_eq f other) where
    by : (b c : Bool) → (cond b (record fields { one = Some v }) (cond c (record fields { other = Some v }) fields)).one ≡ cond b (Some v) fields.one
    by true c = refl
    by false true = refl
    by false false = refl

  law_other : (f : List ℕ) (v : Scalar) (fields : Fields) → (with_field one other f v fields).other ≡ cond (bytes_eq f other) (Some v) fields.other
  law_other f v fields = by (bytes_eq f one) refl (bytes_eq f other) refl where
    by : (b : Bool) → bytes_eq f one ≡ b → (c : Bool) → bytes_eq f other ≡ c
        → (cond b (record fields { one = Some v }) (cond c (record fields { other = Some v }) fields)).other ≡ cond c (Some v) fields.other
    by true is true told = absurd (differ (sym ((bytes_eq-Decides f one).0 is) ∙ (bytes_eq-Decides f other).0 told))
    by true is false told = refl
    by false is true told = refl
    by false is false told = refl

  fields_are : (n : List ℕ) → fields_of (fold (with_value one other) empty (entries_below values (first ∷ []))) n ≡ fields_at values first one other n
  fields_are n = λ i. record { one = field_is one (λ f. f.one) law_one refl n i; other = field_is other (λ f. f.other) law_other refl n i }

  or_false : (b : Bool) → (b || false) ≡ b
  or_false true = refl
  or_false false = refl

  names_are : (n : List ℕ) → contains_key (fold (with_value one other) empty (entries_below values (first ∷ []))) n ≡ list_any (eq_by_cmp bytes_cmp n)
      (names_below values first)
  names_are n =
      all_names one other (entries_below values (first ∷ [])) empty n
      ∙ ap (λ b. list_any (eq_by_cmp bytes_cmp n) (filter_map (λ e. name_in e.0) (entries_below values (first ∷ []))) || b) (ap is_some (get-empty bytes_cmp n))
      ∙ or_false _
      ∙ sym (contains-set_of (filter_map (λ e. name_in e.0) (entries_below values (first ∷ []))) n)
      ∙ contains_key-keys (set_of (filter_map (λ e. name_in e.0) (entries_below values (first ∷ [])))) n

  made : is_sorted bytes_cmp (fields_below values first one other) ≡ true
  made = sorted_made (fields_at values first one other) (entries (set_of (filter_map (λ e. name_in e.0) (entries_below values (first ∷ [])))))
      (of_T _ (entries_sorted (set_of (filter_map (λ e. name_in e.0) (entries_below values (first ∷ []))))))

  -- The entries that were gathered are the fields of each name.
  pub gathered : (found : Found) → found ≡ fold (with_value one other) empty (entries_below values (first ∷ []))
      → entries found ≡ fields_below values first one other
  gathered found is = ap entries (is ∙ same) ∙ entries-from_sorted bytes_cmp (fields_below values first one other) (T_of _ made) where
    same : fold (with_value one other) empty (entries_below values (first ∷ [])) ≡ from_sorted (fields_below values first one other)
    same = same_map bytes_total bytes_cmp-IsAntisymmetric _ _ (λ q.
        given _ _ _ (names_are q) (fields_are q) ∙ sym (get-from_sorted bytes_cmp (fields_below values first one other) q (T_of _ made)
        ∙ find_made (fields_at values first one other) q (names_below values first)))

-- The fields of names rise by name.
pub fields_rise : (values : FinMap key_cmp Scalar) (first one other : List ℕ) → is_sorted bytes_cmp (fields_below values first one other) ≡ true
fields_rise values first one other = sorted_made (fields_at values first one other)
    (entries (set_of (filter_map (λ e. name_in e.0) (entries_below values (first ∷ [])))))
    (of_T _ (entries_sorted (set_of (filter_map (λ e. name_in e.0) (entries_below values (first ∷ []))))))

below_ordered : {X : Type 0} (k : List ℕ) (es : List (List ℕ × X)) → AllByRecursion (λ y. bytes_cmp k y ≡ Less) (map (λ e. e.0) es)
    → below_all bytes_cmp k es ≡ true
below_ordered k [] below = refl
below_ordered k (e ∷ es) below = and_from _ _ (ap is_lt below.0) (below_ordered k es below.1)

ordered_sorted : {X : Type 0} (es : List (List ℕ × X)) → IsStrictlySortedBy bytes_cmp (map (λ e. e.0) es) → is_sorted bytes_cmp es ≡ true
ordered_sorted [] rises = refl
ordered_sorted (e ∷ es) rises = and_from _ _ (below_ordered e.0 es (sorted_head bytes_cmp e.0 (map (λ e. e.0) es) rises))
    (ordered_sorted es (sorted_tail bytes_cmp e.0 (map (λ e. e.0) es) rises))

-- The entries of a tree, in order, are those of the map that it is seen as.
pub tree_entries : {X : Type 0} (es all : List (List ℕ × X)) → IsStrictlySortedBy bytes_cmp (map (λ e. e.0) es)
    → entries (from_entries {R = bytes_cmp} es) ≡ all → es ≡ all
tree_entries es all rises is = sym (entries-seen es (ordered_sorted es rises)) ∙ is
