-- The run of the keys that begin with a path, among keys in order.
use Rattle.std.proofs.Common.{arith, ◌≡◌, ◌<◌, ◌≤◌, ◌+◌, ℕ, zero, suc, List, [], ◌∷◌, ◌++◌, length, drop, get_or}
use Rattle.std.proofs.Common.{append_assoc, append-nil, Bool, true, false, nat_lt, IsTrue, ◌⊎◌, inl, inr, refl, sym, ◌∙◌, ap, subst}
use Rattle.std.specs.Prelude.{◌&&◌}
use Rattle.std.specs.declared.cmp.Ordering.{Ordering}
use Rattle.std.specs.declared.cmp.Ordering.TheVariants.{Less, Equal, Greater}
use Rattle.std.specs.Ordering.{eq_by_cmp, is_eq, is_gt, is_le, is_lt, ordering_index, ordering_reverse}
use Rattle.std.specs.FinMap.{is_sorted}
use Rattle.std.specs.FinMap.Entries.{below_all}
use Rattle.std.specs.List.Sorted.{IsPartitionPoint, IsPartitionedBy}
use Rattle.std.proofs.lemmas.List.{drop_more}
use Rattle.std.proofs.lemmas.Bool.{and_parts, and_from, cond-true, cond-false, lt-ltb, le-ltb}
use Rattle.key_names.specs.Key.{is_prefix}
use Rattle.key_names.specs.Order.{bytes_cmp, key_cmp, key_total, bytes_cmp-IsAntisymmetric}
use Rattle.settings_maps.proofs.SortedEntries.{entries_searchable}
use Rattle.settings_tree.proofs.KeyOrder.{between, prefix_order}
use Rattle.metadata_links.specs.Nearest.{is_past, keys_past}

tied : (r : Ordering) → is_eq r ≡ true → r ≡ Equal
tied Less e = absurd (grind arith)
tied Equal e = refl
tied Greater e = absurd (grind arith)

less : (r : Ordering) → is_lt r ≡ true → r ≡ Less
less Less e = refl
less Equal e = absurd (grind arith)
less Greater e = absurd (grind arith)

-- Nothing is below itself.
irreflexive : (k : List (List ℕ)) → key_cmp k k ≡ Less → ⊥
irreflexive k l = absurd (cc (sym l ∙ key_total.antisymm k k ∙ ap ordering_reverse l))

-- A key that begins with another is that one, or longer.
prefix_longer : (p k : List (List ℕ)) → IsTrue (is_prefix p k) → (p ≡ k) ⊎ (length p < length k)
prefix_longer [] [] is = inl refl
prefix_longer [] (k ∷ ks) is = inr (omega arith)
prefix_longer (p ∷ ps) [] is = absurd (grind arith)
prefix_longer (p ∷ ps) (k ∷ ks) is =
    let both = and_parts (eq_by_cmp bytes_cmp p k) (is_prefix ps ks) is in
    by (prefix_longer ps ks both.1) (bytes_cmp-IsAntisymmetric p k (tied (bytes_cmp p k) both.0))
  where
    by : (ps ≡ ks) ⊎ (length ps < length ks) → p ≡ k → (p ∷ ps ≡ k ∷ ks) ⊎ (length (p ∷ ps) < length (k ∷ ks))
    by (inl e) h = inl (λ i. h i ∷ e i)
    by (inr l) h = inr (omega (arith, l))

-- A key above the path that begins with it is past it.
above_past : (path k : List (List ℕ)) → key_cmp path k ≡ Less → is_prefix path k ≡ true → is_past path k ≡ true
above_past path k above is = by (prefix_longer path k is) where
  by : (path ≡ k) ⊎ (length path < length k) → is_past path k ≡ true
  by (inl e) = absurd (irreflexive k (subst (λ (p : List (List ℕ)). key_cmp p k ≡ Less) e above))
  by (inr l) = and_from _ _ (lt-ltb _ _ l) is

and_no : (a b : Bool) → b ≡ false → (a && b) ≡ false
and_no true b e = e
and_no false b e = refl

-- A key that doesn't begin with the path is not past it.
other_not_past : (path k : List (List ℕ)) → is_prefix path k ≡ false → is_past path k ≡ false
other_not_past path k other = and_no _ _ other

-- A key that isn't above the path is not past it.
low_not_past : (path k : List (List ℕ)) → is_le (key_cmp k path) ≡ true → is_past path k ≡ false
low_not_past path k low = by (is_prefix path k) refl where
  turned : key_cmp path k ≡ Less → is_le (key_cmp k path) ≡ false
  turned l = ap is_le (key_total.antisymm k path ∙ ap ordering_reverse l)

  at : (path ≡ k) ⊎ (key_cmp path k ≡ Less) → is_past path k ≡ false
  at (inl e) = ap (λ (p : List (List ℕ)). nat_lt (length p) (length k) && is_prefix p k) e
      ∙ ap (λ b. b && is_prefix k k) (le-ltb (length k) (length k) (omega arith))
  at (inr l) = absurd (cc (sym low ∙ turned l))

  by : (b : Bool) → is_prefix path k ≡ b → is_past path k ≡ false
  by false is = other_not_past path k is
  by true is = at (prefix_order path k is)

-- What isn't at most the path is above it.
above_path : (path k : List (List ℕ)) → is_le (key_cmp k path) ≡ false → is_lt (key_cmp path k) ≡ true
above_path path k high = ap is_lt (key_total.antisymm path k) ∙ by (key_cmp k path) high where
  by : (r : Ordering) → is_le r ≡ false → is_lt (ordering_reverse r) ≡ true
  by Less h = absurd (cc h)
  by Equal h = absurd (cc h)
  by Greater h = refl

-- Lists of services by key, in order.
abbrev Entries : Type 0
Entries = List (List (List ℕ) × List (List ℕ))

-- The entries before place i are at most the path, and the others above it.
abbrev pub Point : List (List ℕ) → Entries → ℕ → Type 0
Point path es i = IsPartitionPoint (λ e. is_le (key_cmp e.0 path) ≡ true) (λ e. is_le (key_cmp e.0 path) ≡ false) es i

module _ (path : List (List ℕ)) where
  -- The entries that are at most the path have no key past it.
  pub run_from : (es : Entries) (i : ℕ) → Point path es i → keys_past path (drop i es) ≡ keys_past path es
  run_from [] zero point = refl
  run_from [] (suc i) point = refl
  run_from (e ∷ es) zero point = refl
  run_from (e ∷ es) (suc i) point =
      run_from es i (
        λ j d low high. point.0 (suc j) d (omega arith) (omega (arith, high)),
        λ j d low high. point.1 (suc j) d (omega (arith, low))
            (omega (arith, high)),
      )
      ∙ sym (cond-false _ _ _ (low_not_past path e.0 (point.0 0 e (omega arith) (omega arith))))

  -- The others are above it.
  pub run_above : (es : Entries) (i : ℕ) → Point path es i → below_all key_cmp path (drop i es) ≡ true
  run_above [] zero point = refl
  run_above [] (suc i) point = refl
  run_above (e ∷ es) zero point =
      and_from _ _ (above_path path e.0 (point.1 0 e (omega arith) (omega arith)))
      (run_above es zero (λ j d low high. absurd (omega (arith, high)), λ j d low high. point.1 (suc j) d (omega arith) (omega (arith, high))))
  run_above (e ∷ es) (suc i) point =
      run_above es i (
        λ j d low high. point.0 (suc j) d (omega arith) (omega (arith, high)),
        λ j d low high. point.1 (suc j) d (omega (arith, low))
            (omega (arith, high)),
      )

  at_most : (r : Ordering) → is_le r ≡ true → ordering_index r ≤ 1
  at_most Less h = omega arith
  at_most Equal h = omega arith
  at_most Greater h = absurd (cc h)

  within : (r : Ordering) → ordering_index r ≤ 1 → is_le r ≡ true
  within Less h = refl
  within Equal h = refl
  within Greater h = absurd (omega (arith, h))

  -- What is at most the path is before what isn't.
  pub parted : (es : Entries) → IsTrue (is_sorted key_cmp es) → IsPartitionedBy (λ e. is_le (key_cmp e.0 path)) es
  parted es rises i j d before inside low =
      within _ (omega (arith, at_most _ low, entries_searchable key_total es path rises i j d before inside))

  -- A list that begins with the path goes on with the rest.
  pub first_past : (e : List (List ℕ) × List (List ℕ)) (es : Entries) → IsTrue (below_all key_cmp path (e ∷ es)) → is_prefix path e.0 ≡ true
      → keys_past path (e ∷ es) ≡ e.0 ∷ keys_past path es
  first_past e es above is = cond-true _ _ _ (above_past path e.0 (less _ (and_parts _ _ above).0) is)

  not_above : (r : Ordering) → r ≡ Less → is_gt r ≡ false
  not_above r is = ap is_gt is

  none_below : (k : List (List ℕ)) → key_cmp path k ≡ Less → is_prefix path k ≡ false → (es : Entries) → below_all key_cmp k es ≡ true → keys_past path es ≡ []
  none_below k low other [] below = refl
  none_below k low other (e ∷ es) below =
      let both = and_parts _ _ below in
      cond-false _ _ _ (other_not_past path e.0 (by (is_prefix path e.0) refl (less _ both.0))) ∙ none_below k low other es both.1
    where
      by : (b : Bool) → is_prefix path e.0 ≡ b → key_cmp k e.0 ≡ Less → is_prefix path e.0 ≡ false
      by false is above = is
      by true is above = absurd (cc (sym other ∙ between path k e.0 is (not_above _ low) (not_above _ above)))

  -- Where the first key doesn't begin with the path, none does.
  pub run_end : (e : List (List ℕ) × List (List ℕ)) (es : Entries) → IsTrue (is_sorted key_cmp (e ∷ es)) → IsTrue (below_all key_cmp path (e ∷ es))
      → is_prefix path e.0 ≡ false → keys_past path (e ∷ es) ≡ []
  run_end e es rises above other =
      cond-false _ _ _ (other_not_past path e.0 other) ∙ none_below e.0 (less _ (and_parts _ _ above).0) other es (and_parts _ _ rises).0

-- What is left of entries in order is in order.
pub left_sorted : (es : Entries) (i : ℕ) → IsTrue (is_sorted key_cmp es) → IsTrue (is_sorted key_cmp (drop i es))
left_sorted [] zero rises = refl
left_sorted [] (suc i) rises = refl
left_sorted (e ∷ es) zero rises = rises
left_sorted (e ∷ es) (suc i) rises = left_sorted es i (and_parts _ _ rises).1

pub left_above : (path : List (List ℕ)) (es : Entries) (i : ℕ) → IsTrue (below_all key_cmp path es) → IsTrue (below_all key_cmp path (drop i es))
left_above path [] zero above = refl
left_above path [] (suc i) above = refl
left_above path (e ∷ es) zero above = above
left_above path (e ∷ es) (suc i) above = left_above path es i (and_parts _ _ above).1

-- ---- the walk

module _ (path : List (List ℕ)) (es : Entries) (rises : IsTrue (is_sorted key_cmp es)) (above : IsTrue (below_all key_cmp path es)) (i : ℕ)
    (e : List (List ℕ) × List (List ℕ)) (low : i < length es) (is : e ≡ get_or es i e) where
  here : drop i es ≡ e ∷ drop (i + 1) es
  here = drop_more es i e low ∙ ap (λ (x : List (List ℕ) × List (List ℕ)). x ∷ drop (i + 1) es) (sym is)

  sorted : IsTrue (is_sorted key_cmp (e ∷ drop (i + 1) es))
  sorted = subst (λ (l : Entries). IsTrue (is_sorted key_cmp l)) here (left_sorted es i rises)

  over : IsTrue (below_all key_cmp path (e ∷ drop (i + 1) es))
  over = subst (λ (l : Entries). IsTrue (below_all key_cmp path l)) here (left_above path es i above)

  -- The key at hand is taken.
  pub walk_more : (done now all : List (List (List ℕ))) → is_prefix path e.0 ≡ true → done ++ keys_past path (drop i es) ≡ all → now ≡ done ++ e.0 ∷ []
      → now ++ keys_past path (drop (i + 1) es) ≡ all
  walk_more done now all begins whole put =
      ap (λ l. l ++ keys_past path (drop (i + 1) es)) put ∙ append_assoc done (e.0 ∷ []) (keys_past path (drop (i + 1) es))
      ∙ ap (λ l. done ++ l) (sym (ap (keys_past path) here ∙ first_past path e (drop (i + 1) es) over begins)) ∙ whole

  -- The walk ends.
  pub walk_end : (done all : List (List (List ℕ))) → is_prefix path e.0 ≡ false → done ++ keys_past path (drop i es) ≡ all → done ≡ all
  walk_end done all other whole =
      sym (append-nil done) ∙ ap (λ l. done ++ l) (sym (ap (keys_past path) here ∙ run_end path e (drop (i + 1) es) sorted over other)) ∙ whole
