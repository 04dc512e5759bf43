-- Entries that rise by key, seen as a finite map.
use Rattle.std.proofs.Common.{arith, ◌≡◌, ◌<◌, ◌≤◌, ◌+◌, ◌⊎◌, inl, inr, ℕ, zero, suc, List, [], ◌∷◌, length, slice_index_or, slice_set}
use Rattle.std.proofs.Common.{slice_get, not, cond, Bool, true, false, Option, Some, None, IsSome, is_some, IsTrue, T, refl, sym, ◌∙◌, ap, subst}
use Rattle.std.specs.Prelude.{remove as without_place, insert as with_place, ◌==◌}
use Rattle.std.specs.declared.cmp.Ordering.{Ordering}
use Rattle.std.specs.declared.cmp.Ordering.TheVariants.{Less, Equal, Greater}
use Rattle.std.specs.Ordering.{eq_by_cmp, is_eq, is_lt, is_gt, ordering_index}
use Rattle.std.specs.Cmp.{IsTotalOrder, alike_right, eq_by_cmp_equiv}
use Rattle.std.specs.List.Sorted.{IsNonDecreasingBy, IsPartitionPoint}
use Rattle.std.specs.Prelude.{IfOk, IfErr}
use Rattle.std.specs.declared.result.Result.{Result}
use Rattle.std.specs.declared.result.Result.TheVariants.{Ok, Err}
use Rattle.std.specs.List.Sorted.{IsSearchInRange, IsBinarySearchResult}
use Rattle.key_names.specs.Order.{bytes_cmp, bytes_total, bytes_cmp-IsAntisymmetric}
use Rattle.json_trees.specs.declared.scalar.Scalar.{Scalar}
use Rattle.settings_maps.specs.Maps.{IsLeastAfter, HasNoneAfter, IsPast, is_empty}
use Rattle.settings_maps.specs.NamedValues.{RisesByName, IsNameAt, IsNameBetween, IsPlaceAfter}
use Rattle.std.specs.FinMap.{FinMap, IsAntisymmetric, find, put, is_sorted, entries, get, empty, insert, remove}
use Rattle.std.specs.FinMap.{len, from_sorted, get-from_sorted, entries-from_sorted, entries-insert}
use Rattle.std.specs.FinMap.{same_entries_map, same_map, get-remove, len-entries, len-empty}
use Rattle.std.specs.FinMap.Entries.{below_all, by_order, where_key, find-where_key, is_sorted-put, is_sorted-where_key}
use Rattle.std.proofs.lemmas.Bool.{and_parts, cond-true, cond-false, cases_order}
use Rattle.std.proofs.lemmas.Option.{get_or_from_slice_get, slice_get_cases}
use Rattle.std.proofs.lemmas.Cmp.{tied_itself}
use Rattle.std.proofs.lemmas.List.Sorted.{searchable_from_sorted}
use Rattle.settings_maps.proofs.RisingKeys.{not_less, turned}

T_of : (b : Bool) → IsTrue b → T b
T_of b holds = subst T (sym holds) tt

of_T : (b : Bool) → T b → IsTrue b
of_T true holds = refl
of_T false holds = absurd holds

equal : (r : Ordering) → is_eq r ≡ true → r ≡ Equal
equal Less eq = absurd (grind arith)
equal Equal eq = refl
equal Greater eq = absurd (grind arith)

less : (r : Ordering) → IsTrue (is_lt r) → r ≡ Less
less Less lt = refl
less Equal lt = absurd (grind arith)
less Greater lt = absurd (grind arith)

module _ {K : Type 0} {R : K → K → Ordering} (o : IsTotalOrder R) where
  same_tied : (k q : K) → q ≡ k → R k q ≡ Equal
  same_tied k q e = ap (R k) e ∙ tied_itself o k

module _ {K X : Type 0} {R : K → K → Ordering} (o : IsTotalOrder R) where
  below_at : (x : K) (es : List (K × X)) (j : ℕ) (d : K × X) → IsTrue (below_all R x es) → j < length es → R x (slice_index_or es j d).0 ≡ Less
  below_at x [] j d below low = absurd (omega arith)
  below_at x (e ∷ es) zero d below low = less (R x e.0) ((and_parts (is_lt (R x e.0)) _ below).0)
  below_at x (e ∷ es) (suc j) d below low = below_at x es j d ((and_parts (is_lt (R x e.0)) _ below).1) (omega arith)

  -- Each key is below a later one.
  ordered : (es : List (K × X)) (j i : ℕ) (d : K × X) → IsTrue (is_sorted R es) → j < i → i < length es
      → R (slice_index_or es j d).0 (slice_index_or es i d).0 ≡ Less
  ordered [] j i d rises first low = absurd (omega arith)
  ordered (e ∷ es) j zero d rises first low = absurd (omega arith)
  ordered (e ∷ es) zero (suc i) d rises first low = below_at e.0 es i d ((and_parts (below_all R e.0 es) _ rises).0) (omega arith)
  ordered (e ∷ es) (suc j) (suc i) d rises first low = ordered es j i d ((and_parts (below_all R e.0 es) _ rises).1) (omega arith) (omega arith)

  -- A search may go by the order of the keys.
  pub entries_searchable : (es : List (K × X)) (k : K) → IsTrue (is_sorted R es) → IsNonDecreasingBy (λ e. ordering_index (R e.0 k)) es
  entries_searchable es k rises = searchable_from_sorted o (λ e. e.0) es k
      (λ i d low high. not_less (R (slice_index_or es i d).0 (slice_index_or es (i + 1) d).0) _ (o.antisymm _ _)
      (ordered es i (i + 1) d rises (omega arith) high))

  -- The first key is below a later one.
  above_head : (e : K × X) (es : List (K × X)) (i : ℕ) (k : K) → IsTrue (is_sorted R (e ∷ es)) → i < length es → ((d : K × X) → (slice_index_or es i d).0 ≡ k)
      → R k e.0 ≡ Greater
  above_head e es i k rises low at = turned o k e.0 Less (ap (R e.0) (sym (at e)) ∙ below_at e.0 es i e ((and_parts (below_all R e.0 es) _ rises).0) low)

  pub find_found : (es : List (K × X)) (i : ℕ) (k : K) (d : K × X) → IsTrue (is_sorted R es) → i < length es → ((d : K × X) → (slice_index_or es i d).0 ≡ k)
      → find R k es ≡ Some (slice_index_or es i d).1
  find_found [] i k d rises low at = absurd (omega arith)
  find_found (e ∷ es) zero k d rises low at = cond-true _ _ _ (ap is_eq (same_tied o k e.0 (at e)))
  find_found (e ∷ es) (suc i) k d rises low at = cond-false _ _ _ (ap is_eq (above_head e es i k rises (omega arith) at))
      ∙ find_found es i k d ((and_parts (below_all R e.0 es) _ rises).1) (omega arith) at

  put_found : (es : List (K × X)) (i : ℕ) (k : K) (v : X) → IsTrue (is_sorted R es) → i < length es → ((d : K × X) → (slice_index_or es i d).0 ≡ k)
      → put R k v es ≡ slice_set es i (k, v)
  put_found [] i k v rises low at = absurd (omega arith)
  put_found (e ∷ es) zero k v rises low at = ap (λ r. by_order r ((k, v) ∷ e ∷ es) ((e.0, v) ∷ es) (e ∷ put R k v es)) (same_tied o k e.0 (at e))
      ∙ ap (λ (q : K). (q, v) ∷ es) (at e)
  put_found (e ∷ es) (suc i) k v rises low at = ap (λ r. by_order r ((k, v) ∷ e ∷ es) ((e.0, v) ∷ es) (e ∷ put R k v es))
      (above_head e es i k rises (omega arith) at)
      ∙ ap (λ (t : List (K × X)). e ∷ t) (put_found es i k v ((and_parts (below_all R e.0 es) _ rises).1) (omega arith) at)

  all_pass : (k : K) (x : K) (es : List (K × X)) → R k x ≡ Equal → IsTrue (below_all R x es) → where_key R (λ q. not (eq_by_cmp R k q)) es ≡ es
  all_pass k x [] tie below = refl
  all_pass k x (e ∷ es) tie below =
      let both = and_parts (is_lt (R x e.0)) (below_all R x es) below in
      cond-true _ _ _ (ap (λ r. not (is_eq r)) (o.congr k x e.0 tie ∙ less (R x e.0) both.0)) ∙ ap (λ (t : List (K × X)). e ∷ t) (all_pass k x es tie both.1)

  where_found : (es : List (K × X)) (i : ℕ) (k : K) → IsTrue (is_sorted R es) → i < length es → ((d : K × X) → (slice_index_or es i d).0 ≡ k)
      → where_key R (λ q. not (eq_by_cmp R k q)) es ≡ without_place es i
  where_found [] i k rises low at = absurd (omega arith)
  where_found (e ∷ es) zero k rises low at = cond-false _ _ _ (ap (λ r. not (is_eq r)) (same_tied o k e.0 (at e)))
      ∙ all_pass k e.0 es (same_tied o k e.0 (at e)) ((and_parts (below_all R e.0 es) _ rises).0)
  where_found (e ∷ es) (suc i) k rises low at = cond-true _ _ _ (ap (λ r. not (is_eq r)) (above_head e es i k rises (omega arith) at))
      ∙ ap (λ (t : List (K × X)). e ∷ t) (where_found es i k ((and_parts (below_all R e.0 es) _ rises).1) (omega arith) at)

  -- The keys before place i are below k, and the others above it.
  abbrev Point : List (K × X) → K → ℕ → Type 0
  Point es k i = IsPartitionPoint (λ e. R e.0 k ≡ Less) (λ e. R e.0 k ≡ Greater) es i

  later : (e : K × X) (es : List (K × X)) (k : K) (i : ℕ) → Point (e ∷ es) k (suc i) → Point es k i
  later e es k i point = (λ j d low high. point.0 (suc j) d (omega arith) (omega arith), λ j d low high. point.1 (suc j) d (omega arith) (omega arith))

  later_all : (e : K × X) (es : List (K × X)) (k : K) → Point (e ∷ es) k 0 → Point es k 0
  later_all e es k point = (λ j d low high. absurd (omega arith), λ j d low high. point.1 (suc j) d (omega arith) (omega arith))

  head_below : (e : K × X) (es : List (K × X)) (k : K) (i : ℕ) → Point (e ∷ es) k (suc i) → R k e.0 ≡ Greater
  head_below e es k i point = turned o k e.0 Less (point.0 0 e (omega arith) (omega arith))

  head_above : (e : K × X) (es : List (K × X)) (k : K) → Point (e ∷ es) k 0 → R k e.0 ≡ Less
  head_above e es k point = turned o k e.0 Greater (point.1 0 e (omega arith) (omega arith))

  -- A list with no place for a key lacks it.
  pub find_missing : (es : List (K × X)) (i : ℕ) (k : K) → Point es k i → find R k es ≡ None
  find_missing [] i k point = refl
  find_missing (e ∷ es) zero k point = cond-false _ _ _ (ap is_eq (head_above e es k point)) ∙ find_missing es zero k (later_all e es k point)
  find_missing (e ∷ es) (suc i) k point = cond-false _ _ _ (ap is_eq (head_below e es k i point)) ∙ find_missing es i k (later e es k i point)

  put_missing : (es : List (K × X)) (i : ℕ) (k : K) (v : X) → i ≤ length es → Point es k i → put R k v es ≡ with_place es i (k, v)
  put_missing [] zero k v low point = refl
  put_missing [] (suc i) k v low point = absurd (omega arith)
  put_missing (e ∷ es) zero k v low point = ap (λ r. by_order r ((k, v) ∷ e ∷ es) ((e.0, v) ∷ es) (e ∷ put R k v es)) (head_above e es k point)
  put_missing (e ∷ es) (suc i) k v low point = ap (λ r. by_order r ((k, v) ∷ e ∷ es) ((e.0, v) ∷ es) (e ∷ put R k v es)) (head_below e es k i point)
      ∙ ap (λ (t : List (K × X)). e ∷ t) (put_missing es i k v (omega arith) (later e es k i point))

  where_missing : (es : List (K × X)) (i : ℕ) (k : K) → Point es k i → where_key R (λ q. not (eq_by_cmp R k q)) es ≡ es
  where_missing [] i k point = refl
  where_missing (e ∷ es) zero k point = cond-true _ _ _ (ap (λ r. not (is_eq r)) (head_above e es k point))
      ∙ ap (λ (t : List (K × X)). e ∷ t) (where_missing es zero k (later_all e es k point))
  where_missing (e ∷ es) (suc i) k point = cond-true _ _ _ (ap (λ r. not (is_eq r)) (head_below e es k i point))
      ∙ ap (λ (t : List (K × X)). e ∷ t) (where_missing es i k (later e es k i point))

  get_at : (es : List (K × X)) (v : FinMap R X) (q : K) → from_sorted es ≡ v → IsTrue (is_sorted R es) → get v q ≡ find R q es
  get_at es v q is rises = sym (ap (λ (w : FinMap R X). get w q) is) ∙ get-from_sorted R es q (T_of _ rises)

  -- The entries with x put at k are the map with x at k.
  pub put_seen : (es fs : List (K × X)) (v : FinMap R X) (k : K) (x : X) → from_sorted es ≡ v → IsTrue (is_sorted R es) → put R k x es ≡ fs
      → from_sorted fs ≡ insert v k x
  put_seen es fs v k x is rises done = same_entries_map _ _ (entries-from_sorted R fs
      (subst (λ (l : List (K × X)). T (is_sorted R l)) done (is_sorted-put R o k x es (T_of _ rises)))
      ∙ sym done ∙ ap (put R k x) (sym (ap entries (sym is) ∙ entries-from_sorted R es (T_of _ rises))) ∙ sym (entries-insert o v k x))

  pub put_rises : (es fs : List (K × X)) (k : K) (x : X) → IsTrue (is_sorted R es) → put R k x es ≡ fs → IsTrue (is_sorted R fs)
  put_rises es fs k x rises done = subst (λ (l : List (K × X)). IsTrue (is_sorted R l)) done (of_T _ (is_sorted-put R o k x es (T_of _ rises)))

  pub taken_rises : (es fs : List (K × X)) (k : K) → IsTrue (is_sorted R es) → where_key R (λ q. not (eq_by_cmp R k q)) es ≡ fs → IsTrue (is_sorted R fs)
  taken_rises es fs k rises done = subst (λ (l : List (K × X)). IsTrue (is_sorted R l)) done (of_T _ (is_sorted-where_key R _ es (T_of _ rises)))

  -- The other entries are the map without k.
  pub taken_seen : IsAntisymmetric R → (es fs : List (K × X)) (v : FinMap R X) (k : K) → from_sorted es ≡ v → IsTrue (is_sorted R es)
      → where_key R (λ q. not (eq_by_cmp R k q)) es ≡ fs → from_sorted fs ≡ remove v k
  taken_seen same es fs v k is rises done = same_map o same _ _ (λ q.
      get_at fs (from_sorted fs) q refl (taken_rises es fs k rises done) ∙ ap (find R q) (sym done)
      ∙ find-where_key R (λ q. not (eq_by_cmp R k q)) q (λ x t. ap (λ r. not (is_eq r)) (sym (alike_right o q x k t))) es
      ∙ turned_cond (eq_by_cmp R k q) _ _ ∙ ap (λ b. cond b None (find R q es)) ((eq_by_cmp_equiv o).symm k q)
      ∙ ap (cond (eq_by_cmp R q k) None) (sym (get_at es v q is rises)) ∙ sym (get-remove o v k q))
    where
      turned_cond : (b : Bool) (x y : Option X) → cond (not b) x y ≡ cond b y x
      turned_cond true x y = refl
      turned_cond false x y = refl

  -- The entries of the list are those of the map.
  pub entries_seen : (es : List (K × X)) (v : FinMap R X) → from_sorted es ≡ v → IsTrue (is_sorted R es) → es ≡ entries v
  entries_seen es v is rises = sym (entries-from_sorted R es (T_of _ rises)) ∙ ap entries is

  -- The empty list has no entry.
  pub empty_seen : (es : List (K × X)) → es ≡ [] → from_sorted {R = R} es ≡ empty
  empty_seen es none = same_entries_map _ _ (entries-from_sorted R es (subst (λ (l : List (K × X)). T (is_sorted R l)) (sym none) tt) ∙ none
      ∙ sym no_entries) where
        no_entries : entries (empty {X = X} {R = R}) ≡ []
        no_entries = no_length _ (sym (len-entries (empty {X = X} {R = R})) ∙ len-empty R X) where
          no_length : (l : List (K × X)) → length l ≡ 0 → l ≡ []
          no_length [] e = refl
          no_length (e ∷ l) n = absurd (omega arith)

-- Values by name.
abbrev Named : Type 0
Named = List (List ℕ × Scalar)

pub names_empty : (es : Named) → es ≡ [] → from_sorted {R = bytes_cmp} es ≡ empty
names_empty = empty_seen bytes_total

pub none_rise : (es : Named) → es ≡ [] → RisesByName es
none_rise es none = rw none refl

-- What a search answers.
pub found : (es : Named) (k : List ℕ) (r : Result ℕ ℕ) → IsSearchInRange r (length es) → IsBinarySearchResult (λ e. bytes_cmp e.0 k) es r
    → IfOk r (IsNameAt es k)
found es k (Ok i) range result = record { within = range; same = λ d. bytes_cmp-IsAntisymmetric _ _ (result d) }
found es k (Err i) range result = tt

pub missing : (es : Named) (k : List ℕ) (r : Result ℕ ℕ) → RisesByName es → IsSearchInRange r (length es) → IsBinarySearchResult (λ e. bytes_cmp e.0 k) es r
    → IfErr r (IsNameBetween es k)
missing es k (Ok i) rises range result = tt
missing es k (Err i) rises range result = record { within = range; parts = result (entries_searchable bytes_total es k rises) }

-- What a search found in the list that v is seen from.
module _ (es list : Named) (i : ℕ) (k : List ℕ) (rises : RisesByName es) (is : list ≡ es) where
  at_name : IsNameAt list k i → IsNameAt es k i
  at_name = subst (λ (l : Named). IsNameAt l k i) is

  between : IsNameBetween list k i → IsNameBetween es k i
  between = subst (λ (l : Named). IsNameBetween l k i) is

  put_at : (y : Scalar) → IsNameAt list k i → put bytes_cmp k y es ≡ slice_set es i (k, y)
  put_at y name = put_found bytes_total es i k y rises (at_name name).within (at_name name).same

  put_between : (fs : Named) (y : Scalar) → IsNameBetween list k i → fs ≡ with_place es i (k, y) → put bytes_cmp k y es ≡ fs
  put_between fs y gap done = put_missing bytes_total es i k y (between gap).within (between gap).parts ∙ sym done

  left_at : (fs : Named) → IsNameAt list k i → fs ≡ without_place es i → where_key bytes_cmp (λ q. not (eq_by_cmp bytes_cmp k q)) es ≡ fs
  left_at fs name done = where_found bytes_total es i k rises (at_name name).within (at_name name).same ∙ sym done

  pub rises_found : (y : Scalar) → IsNameAt list k i → RisesByName (slice_set es i (k, y))
  rises_found y name = put_rises bytes_total es _ k y rises (put_at y name)

  pub rises_missing : (fs : Named) (y : Scalar) → IsNameBetween list k i → fs ≡ with_place es i (k, y) → RisesByName fs
  rises_missing fs y gap done = put_rises bytes_total es fs k y rises (put_between fs y gap done)

  pub rises_removed : (fs : Named) → IsNameAt list k i → fs ≡ without_place es i → RisesByName fs
  rises_removed fs name done = taken_rises bytes_total es fs k rises (left_at fs name done)

  module _ (v : FinMap bytes_cmp Scalar) (seen : from_sorted es ≡ v) where
    pub get_found : (x : List ℕ × Scalar) → IsNameAt list k i → x ≡ slice_index_or es i x → Some x.1 ≡ get v k
    get_found x name at = ap (λ (e : List ℕ × Scalar). Some e.1) at ∙ sym (find_found bytes_total es i k x rises (at_name name).within (at_name name).same)
        ∙ sym (get_at bytes_total es v k seen rises)

    pub get_missing : IsNameBetween list k i → get v k ≡ None
    get_missing gap = get_at bytes_total es v k seen rises ∙ find_missing bytes_total es i k (between gap).parts

    pub insert_found : (y : Scalar) → IsNameAt list k i → from_sorted (slice_set es i (k, y)) ≡ insert v k y
    insert_found y name = put_seen bytes_total es _ v k y seen rises (put_at y name)

    pub insert_missing : (fs : Named) (y : Scalar) → IsNameBetween list k i → fs ≡ with_place es i (k, y) → from_sorted fs ≡ insert v k y
    insert_missing fs y gap done = put_seen bytes_total es fs v k y seen rises (put_between fs y gap done)

    pub remove_found : (fs : Named) → IsNameAt list k i → fs ≡ without_place es i → from_sorted fs ≡ remove v k
    remove_found fs name done = taken_seen bytes_total bytes_cmp-IsAntisymmetric es fs v k seen rises (left_at fs name done)

    -- No name is missing where it has a value.
    pub never_missing : (A : Type 0) → IsNameBetween list k i → IsSome (get v k) → A
    never_missing A gap has = absurd (none (subst IsSome (get_missing gap) has)) where
      none : IsSome {T = Scalar} None → ⊥
      none has = grind arith

    pub remove_missing : IsNameBetween list k i → v ≡ remove v k
    remove_missing gap = sym seen ∙ taken_seen bytes_total bytes_cmp-IsAntisymmetric es es v k seen rises (where_missing bytes_total es i k (between gap).parts)

-- The test for no entry is the test for no name.
pub names_is_empty : (es : Named) (v : FinMap bytes_cmp Scalar) (b : Bool) → from_sorted es ≡ v → RisesByName es → b ≡ (length es == 0) → b ≡ is_empty v
names_is_empty es v b seen rises test = test ∙ ap (λ (n : ℕ). n == 0) (sym (ap length (entries-from_sorted bytes_cmp es (T_of _ rises)))
    ∙ sym (len-entries (from_sorted es)) ∙ ap len seen)

not_past : (r : Ordering) → r ≡ Greater → ¬ (r ≡ Less)
not_past r g l = absurd (cc (g, l))

not_past_itself : (r : Ordering) → r ≡ Equal → ¬ (r ≡ Less)
not_past_itself r e l = absurd (cc (e, l))

-- The place after a name that was found.
pub place_found : (es : Named) (k : List ℕ) (i : ℕ) → RisesByName es → IsNameAt es k i → IsPlaceAfter es (Some k) (i + 1)
place_found es k i rises name = record { within = let low : i < length es = name.within in omega arith; parts = (before, from) } where
  before : (j : ℕ) (d : List ℕ × Scalar) → 0 ≤ j → j < i + 1 → ¬ (bytes_cmp k (slice_index_or es j d).0 ≡ Less)
  before j d _ low = by (cases_order j i) where
    by : (j ≡ i) ⊎ ((j < i) ⊎ (i < j)) → ¬ (bytes_cmp k (slice_index_or es j d).0 ≡ Less)
    by (inl e) = not_past_itself _ (same_tied bytes_total k _ (ap (λ (n : ℕ). (slice_index_or es n d).0) e ∙ name.same d))
    by (inr (inl l)) = not_past _ (turned bytes_total k _ Less (ap (bytes_cmp (slice_index_or es j d).0) (sym (name.same d))
        ∙ ordered bytes_total es j i d rises l name.within))
    by (inr (inr g)) = absurd (omega arith)

  from : (j : ℕ) (d : List ℕ × Scalar) → i + 1 ≤ j → j < length es → bytes_cmp k (slice_index_or es j d).0 ≡ Less
  from j d high low = ap (λ (q : List ℕ). bytes_cmp q (slice_index_or es j d).0) (sym (name.same d)) ∙ ordered bytes_total es i j d rises (omega arith) low

-- The place after a name that was not found.
pub place_missing : (es : Named) (k : List ℕ) (i : ℕ) → IsNameBetween es k i → IsPlaceAfter es (Some k) i
place_missing es k i gap = record {
  within = gap.within;
  parts = (
    λ j d low high. not_past _ (turned bytes_total k _ Less (gap.parts.0 j d low high)),
    λ j d low high. turned bytes_total k _ Greater (gap.parts.1 j d low high),
  );
}

-- The place after none.
pub place_first : (es : Named) → IsPlaceAfter es None 0
place_first es = record { within = omega arith; parts = (λ j d low high. absurd (omega arith), λ j d low high. tt) }

inside : (es : Named) (i : ℕ) (x : List ℕ × Scalar) → slice_get es i ≡ Some x → i < length es
inside es i x at = by ((slice_get_cases es i).1) where
  by : ((y : List ℕ × Scalar) × (i < length es) × (slice_get es i ≡ Some y) × (slice_index_or es i y ≡ y)) ⊎ ((length es ≤ i) × (slice_get es i ≡ None))
      → i < length es
  by (inl here) = here.1
  by (inr past) = absurd (cc (at, past.1))

-- A name that has a value is somewhere.
find_place : (es : Named) (q : List ℕ) → IsSome (find bytes_cmp q es) → (j : ℕ) × (j < length es) × ((d : List ℕ × Scalar) → (slice_index_or es j d).0 ≡ q)
find_place [] q has = absurd (grind arith)
find_place (e ∷ es) q has = by (eq_by_cmp bytes_cmp q e.0) refl (find_place es q) where
  by : (b : Bool) → eq_by_cmp bytes_cmp q e.0 ≡ b → (IsSome (find bytes_cmp q es)
      → (j : ℕ) × (j < length es) × ((d : List ℕ × Scalar) → (slice_index_or es j d).0 ≡ q))
      → (j : ℕ) × (j < length (e ∷ es)) × ((d : List ℕ × Scalar) → (slice_index_or (e ∷ es) j d).0 ≡ q)
  by true is later = (0, omega arith, λ d. sym (bytes_cmp-IsAntisymmetric q e.0 (equal _ is)))
  by false is later = let rest = later (subst IsSome (cond-false _ _ _ is) has) in (suc rest.0, omega (arith, rest.1), rest.2)

-- The entry at the place after a name.
pub least_name : (es list : Named) (v : FinMap bytes_cmp Scalar) (after : Option (List ℕ)) (i : ℕ) (x : List ℕ × Scalar) → from_sorted es ≡ v → RisesByName es
    → list ≡ es → IsPlaceAfter list after i → slice_get es i ≡ Some x → IsLeastAfter v after x.0 x.1
least_name es list v after i x seen rises is place at =
    let low : i < length es = inside es i x at in
    let here : (d : List ℕ × Scalar) → slice_index_or es i d ≡ x = λ d. get_or_from_slice_get es i x d at in
    let first : IsPlaceAfter es after i = subst (λ (l : Named). IsPlaceAfter l after i) is place in
    record {
      stands = get_at bytes_total es v x.0 seen rises ∙ find_found bytes_total es i x.0 x rises low (λ d. ap (λ (e : List ℕ × Scalar). e.0) (here d))
          ∙ ap (λ (e : List ℕ × Scalar). Some e.1) (here x);
      past = subst (λ (e : List ℕ × Scalar). IsPast bytes_cmp after e.0) (here x) (first.parts.1 i x (omega arith) low);
      least = λ q past has. from_place low here first q past (find_place es q (subst IsSome (get_at bytes_total es v q seen rises) has));
    }
  where
    from_place : i < length es → ((d : List ℕ × Scalar) → slice_index_or es i d ≡ x) → IsPlaceAfter es after i → (q : List ℕ) → IsPast bytes_cmp after q
        → (j : ℕ) × (j < length es) × ((d : List ℕ × Scalar) → (slice_index_or es j d).0 ≡ q) → is_gt (bytes_cmp x.0 q) ≡ false
    from_place low here first q past (j, within, at) = by (cases_order j i) where
      by : (j ≡ i) ⊎ ((j < i) ⊎ (i < j)) → is_gt (bytes_cmp x.0 q) ≡ false
      by (inl e) = ap is_gt (ap (bytes_cmp x.0) (sym (at x) ∙ ap (λ (n : ℕ). (slice_index_or es n x).0) e ∙ ap (λ (e : List ℕ × Scalar). e.0) (here x))
          ∙ tied_itself bytes_total x.0)
      by (inr (inl l)) = absurd (first.parts.0 j x (omega arith) l (subst (IsPast bytes_cmp after) (sym (at x)) past))
      by (inr (inr g)) = ap is_gt (ap (λ (e : List ℕ × Scalar). bytes_cmp e.0 q) (sym (here x)) ∙ ap (bytes_cmp (slice_index_or es i x).0) (sym (at x))
          ∙ ordered bytes_total es i j x rises g within)

-- No entry at the place after a name.
pub no_name : (es list : Named) (v : FinMap bytes_cmp Scalar) (after : Option (List ℕ)) (i : ℕ) → from_sorted es ≡ v → RisesByName es → list ≡ es
    → IsPlaceAfter list after i → length es ≤ i → HasNoneAfter v after
no_name es list v after i seen rises is place past_end = record {
  none = λ q past. get_at bytes_total es v q seen rises
      ∙ nowhere q past (find bytes_cmp q es) refl;
} where
  nowhere : (q : List ℕ) → IsPast bytes_cmp after q → (o : Option Scalar) → find bytes_cmp q es ≡ o → find bytes_cmp q es ≡ None
  nowhere q past None found = found
  nowhere q past (Some y) found = absurd (ahead (find_place es q (ap is_some found))) where
    ahead : (j : ℕ) × (j < length es) × ((d : List ℕ × Scalar) → (slice_index_or es j d).0 ≡ q) → ⊥
    ahead (j, within, here) = (subst (λ (l : Named). IsPlaceAfter l after i) is place).parts.0 j (q, y) (omega arith) (omega arith)
        (subst (IsPast bytes_cmp after) (sym (here (q, y))) past)

pub ruleset puts = (rises_found, rises_missing, insert_found, insert_missing)

pub ruleset sorted_entries = (
  names_empty,
  none_rise,
  names_is_empty,
  rises_found,
  rises_missing,
  rises_removed,
  get_found,
  get_missing,
  insert_found,
  insert_missing,
  remove_found,
  remove_missing,
  place_missing,
  place_first,
  least_name,
  no_name,
)
