-- The key at which a map breaks the prefix rule, and the walk that finds it.
use Rattle.std.proofs.Common.{◌≡◌, ◌&&◌, ◌||◌, ℕ, List, [], ◌∷◌, Option, Some, None}
use Rattle.std.proofs.Common.{Bool, true, false, cond, not, map, IsTrue, is_some, refl, sym, ◌∙◌, ap}
use Rattle.std.specs.List.{find, list_any}
use Rattle.std.specs.Option.{option_map_or}
use Rattle.std.specs.Ordering.{eq_by_cmp, is_eq}
use Rattle.std.specs.Cmp.{eq_by_cmp_equiv}
use Rattle.std.specs.FinMap.{FinMap, keys, remove}
use Rattle.std.proofs.lemmas.Bool.{and_from, and_left, and_right, cond-false, cond-true, not-false, or_parts}
use Rattle.key_names.specs.Order.{key_cmp, key_total, key_cmp-IsAntisymmetric}
use Rattle.key_names.specs.Key.{is_prefix}
use Rattle.settings_maps.specs.Maps.{IsLeastAfter, HasNoneAfter}
use Rattle.settings_maps.proofs.NestedMaps.{tied_by}
use Rattle.settings_tree.specs.Rule.{IsPrefixFree, HasNoLonger}
use Rattle.settings_tree.specs.Walks.{entries_past}
use Rattle.settings_tree.proofs.PrefixRule.{longer_none, longer_some, take_free}
use Rattle.settings_tree.proofs.Walks.{walk_start, walk_next, walk_end}
use Rattle.migrate_helpers.specs.Entries.{removed}
use Rattle.migrate_helpers.specs.Conflict.{conflict, has_longer, is_proper_prefix}
use Rattle.migrate_helpers.specs.Laws.Standing.{stands_any, stands_none, fails_at}

-- A key that is no proper prefix of one that begins with it is that one.
one_key : (k q : List (List ℕ)) → is_proper_prefix k q ≡ false → IsTrue (is_prefix k q) → k ≡ q
one_key k q not_proper begins = key_cmp-IsAntisymmetric k q (tied_by _
    (not-false _ (tie (is_prefix k q) (not (eq_by_cmp key_cmp k q)) begins not_proper))) where
      tie : (a b : Bool) → a ≡ true → (a && b) ≡ false → b ≡ false
      tie true b is both = both
      tie false b is both = absurd (cc is)

not_proper : (k q : List (List ℕ)) (b : Bool) → is_prefix k q ≡ b → (IsTrue (is_prefix k q) → k ≡ q) → is_proper_prefix k q ≡ false
not_proper k q false is one = and_left _ _ is
not_proper k q true is one = and_right _ _ (ap not (ap (eq_by_cmp key_cmp k) (sym (one is)) ∙ (eq_by_cmp_equiv key_total).refl k))

module _ {X : Type 0} (m : FinMap key_cmp X) where
  none_longer : (k : List (List ℕ)) → HasNoLonger m k → has_longer m k ≡ false
  none_longer k alone = stands_none key_total key_cmp-IsAntisymmetric m (is_proper_prefix k)
      (λ q has. not_proper k q (is_prefix k q) refl (λ begins. alone.alone q has begins))

  -- The next key tells whether a key is a proper prefix of another.
  next_longer : (k n : List (List ℕ)) (x : X) (b : Bool) → IsLeastAfter m (Some k) n x → b ≡ is_prefix k n → b ≡ has_longer m k
  next_longer k n x true next is =
      sym (stands_any key_total key_cmp-IsAntisymmetric m (is_proper_prefix k) n (ap is_some next.stands)
      (and_from _ _ (sym is) (ap (λ r. not (is_eq r)) next.past)))
  next_longer k n x false next is = sym (none_longer k (longer_some m k n x next (sym is)))

  -- The last key is no proper prefix of another.
  last_longer : (k : List (List ℕ)) → HasNoneAfter m (Some k) → false ≡ has_longer m k
  last_longer k none = sym (none_longer k (longer_none m k none))

  -- The first of the keys past the given one that is a proper prefix of another.
  abbrev pub conflict_past : Option (List (List ℕ)) → Option (List (List ℕ))
  conflict_past after = find (has_longer m) (map (λ e. e.0) (entries_past m after))

  -- The first of the keys from the given one on that is a proper prefix of another.
  abbrev pub conflict_from : Option (List (List ℕ)) → Option (List (List ℕ))
  conflict_from None = conflict_past None
  conflict_from (Some k) = cond (has_longer m k) (Some k) (conflict_past (Some k))

  pub conflict_start : conflict_from None ≡ conflict m
  conflict_start = ap (λ (es : List (List (List ℕ) × X)). find (has_longer m) (map (λ e. e.0) es)) (walk_start key_total key_cmp-IsAntisymmetric m)

  at_next : (after : Option (List (List ℕ))) (k : List (List ℕ)) (x : X) → IsLeastAfter m after k x → conflict_past after ≡ conflict_from (Some k)
  at_next after k x next = ap (λ (es : List (List (List ℕ) × X)). find (has_longer m) (map (λ e. e.0) es))
      (walk_next key_total key_cmp-IsAntisymmetric m after k x next)

  -- A key with which the next one begins is the conflict.
  pub conflict_found : (before : Option (List (List ℕ))) (k : List (List ℕ)) (x : X) → IsLeastAfter m before k x → conflict_from before ≡ conflict m
      → option_map_or (λ b. is_prefix b k) before false ≡ true → before ≡ conflict m
  conflict_found None k x next from begins = absurd (cc begins)
  conflict_found (Some b) k x next from begins = sym (cond-true _ _ _ (sym (next_longer b k x true next (sym begins)))) ∙ from

  -- One with which it doesn't begin is none.
  pub conflict_later : (before : Option (List (List ℕ))) (k : List (List ℕ)) (x : X) → IsLeastAfter m before k x → conflict_from before ≡ conflict m
      → option_map_or (λ b. is_prefix b k) before false ≡ false → conflict_from (Some k) ≡ conflict m
  conflict_later None k x next from begins = sym (at_next None k x next) ∙ from
  conflict_later (Some b) k x next from begins = sym (at_next (Some b) k x next) ∙ sym (cond-false _ _ _ (sym (next_longer b k x false next (sym begins))))
      ∙ from

  -- Nor is the last one.
  pub conflict_end : (before : Option (List (List ℕ))) → HasNoneAfter m before → conflict_from before ≡ conflict m → None ≡ conflict m
  conflict_end before none from = sym (past before none) ∙ last before none ∙ from where
    past : (before : Option (List (List ℕ))) → HasNoneAfter m before → conflict_past before ≡ None
    past before none = ap (λ (es : List (List (List ℕ) × X)). find (has_longer m) (map (λ e. e.0) es))
        (walk_end key_total key_cmp-IsAntisymmetric m before none)

    last : (before : Option (List (List ℕ))) → HasNoneAfter m before → conflict_past before ≡ conflict_from before
    last None none = refl
    last (Some b) none = sym (cond-false _ _ _ (sym (last_longer b none)))

none_found : (p : List (List ℕ) → Bool) (ks : List (List (List ℕ))) → find p ks ≡ None → list_any p ks ≡ false
none_found p [] none = refl
none_found p (k ∷ ks) none = by (p k) none (none_found p ks) where
  by : (b : Bool) → cond b (Some k) (find p ks) ≡ None → (find p ks ≡ None → list_any p ks ≡ false) → (b || list_any p ks) ≡ false
  by true is rest = absurd (cc is)
  by false is rest = rest is

found_none : (p : List (List ℕ) → Bool) (ks : List (List (List ℕ))) → list_any p ks ≡ false → find p ks ≡ None
found_none p [] none = refl
found_none p (k ∷ ks) none = let both = or_parts (p k) (list_any p ks) none in cond-false _ _ _ both.0 ∙ found_none p ks both.1

-- A map without a conflict keeps the prefix rule.
pub free_of_conflict : {X : Type 0} (m : FinMap key_cmp X) → conflict m ≡ None → IsPrefixFree m
free_of_conflict m none = record {
  alone = λ k q has other begins.
      let short : has_longer m k ≡ false = fails_at key_total key_cmp-IsAntisymmetric m (has_longer m) k (none_found (has_longer m) (keys m) none) has in
      one_key k q (fails_at key_total key_cmp-IsAntisymmetric m (is_proper_prefix k) q short other) begins;
}

-- A map that keeps the prefix rule has no conflict.
pub no_conflict : {X : Type 0} (m : FinMap key_cmp X) → IsPrefixFree m → conflict m ≡ None
no_conflict m free = found_none (has_longer m) (keys m) (stands_none key_total key_cmp-IsAntisymmetric m (has_longer m)
    (λ k has. none_longer m k (record { alone = λ q other begins. free.alone k q has other begins })))

-- A map without some keys keeps the prefix rule.
pub removed_free : {X : Type 0} (keys : List (List (List ℕ))) (m : FinMap key_cmp X) → IsPrefixFree m → IsPrefixFree (removed m keys)
removed_free [] m free = free
removed_free (k ∷ keys) m free = removed_free keys (remove m k) (take_free m k free)
