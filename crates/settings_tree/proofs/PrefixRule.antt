-- The prefix rule, and the test whether a key fits.
use Rattle.std.proofs.Common.{arith, ◌≡◌, ◌≢◌, ℕ, List, Option, Some, None, Bool, true, false}
use Rattle.std.proofs.Common.{cond, ◌⊎◌, inl, inr, refl, sym, ◌∙◌, ap, subst, IsSome, IsTrue, is_some}
use Rattle.std.specs.declared.cmp.Ordering.{Ordering}
use Rattle.std.specs.declared.cmp.Ordering.TheVariants.{Less, Equal, Greater}
use Rattle.std.specs.Ordering.{eq_by_cmp, is_gt}
use Rattle.std.specs.FinMap.{FinMap, empty, get, insert, remove, get-empty, get-insert, get-remove}
use Rattle.std.proofs.lemmas.Bool.{both_ways, or_left, or_right}
use Rattle.std.proofs.lemmas.Cmp.{tied_itself}
use Rattle.key_names.specs.Order.{key_cmp, key_total, key_cmp-IsAntisymmetric}
use Rattle.key_names.specs.Key.{is_prefix}
use Rattle.settings_maps.specs.Maps.{IsLeastAfter, HasNoneAfter, IsLastBefore, HasNoneBefore}
use Rattle.settings_tree.specs.Rule.{IsPrefixFree, HasNoLonger, HasNoShorter, Fits, Clashes}
use Rattle.settings_tree.proofs.KeyOrder.{between, prefix_order}
use Rattle.settings_maps.proofs.NestedMaps.{tied_by}

below : (r : Ordering) → r ≡ Less → is_gt r ≡ false
below Less e = refl
below Equal e = refl
below Greater e = grind arith

unlike : (a b : List (List ℕ)) → key_cmp a b ≡ Less → a ≢ b
unlike a b less same = absurd (cc (sym less ∙ ap (λ (x : List (List ℕ)). key_cmp x b) same ∙ tied_itself key_total b))

module _ {X : Type 0} where
  none_there : (o : Option X) → o ≡ None → IsSome o → ⊥
  none_there o none has = absurd (cc (none, has))

  -- The empty map keeps the rule.
  pub empty_free : (m : FinMap key_cmp X) → m ≡ empty → IsPrefixFree m
  empty_free m is = record {
    alone = λ k q has other begins. absurd (none_there (get m k) (ap (λ (w : FinMap key_cmp X). get w k) is ∙ get-empty key_cmp k) has);
  }

  put_at : (m : FinMap key_cmp X) (k : List (List ℕ)) (v : X) (p : List (List ℕ)) → IsSome (get (insert m k v) p) → (p ≡ k) ⊎ IsSome (get m p)
  put_at m k v p has = go (eq_by_cmp key_cmp p k) refl (subst IsSome (get-insert key_total m k v p) has) where
    go : (b : Bool) → eq_by_cmp key_cmp p k ≡ b → IsSome (cond b (Some v) (get m p)) → (p ≡ k) ⊎ IsSome (get m p)
    go true e h = inl (key_cmp-IsAntisymmetric p k (tied_by (key_cmp p k) e))
    go false e h = inr h

  -- A put of a key that fits keeps the rule.
  pub put_free : (m : FinMap key_cmp X) (k : List (List ℕ)) (v : X) → IsPrefixFree m → Fits m k → IsPrefixFree (insert m k v)
  put_free m k v free fits = record { alone = λ p q has other begins. go p q begins (put_at m k v p has) (put_at m k v q other) } where
    go : (p q : List (List ℕ)) → IsTrue (is_prefix p q) → (p ≡ k) ⊎ IsSome (get m p) → (q ≡ k) ⊎ IsSome (get m q) → p ≡ q
    go p q begins (inl e) (inl f) = e ∙ sym f
    go p q begins (inl e) (inr h) = e ∙ fits.longer.alone q h (subst (λ (y : List (List ℕ)). IsTrue (is_prefix y q)) e begins)
    go p q begins (inr h) (inl f) = fits.shorter.alone p h (subst (λ (y : List (List ℕ)). IsTrue (is_prefix p y)) f begins) ∙ sym f
    go p q begins (inr h) (inr g) = free.alone p q h g begins

  still : (b : Bool) (o : Option X) → IsSome (cond b None o) → IsSome o
  still true o e = absurd (none_there None refl e)
  still false o e = e

  -- What is left after a removal was there before.
  pub left_at : (m : FinMap key_cmp X) (k p : List (List ℕ)) → IsSome (get (remove m k) p) → IsSome (get m p)
  left_at m k p has = still (eq_by_cmp key_cmp p k) (get m p) (subst IsSome (get-remove key_total m k p) has)

  -- A removal keeps the rule.
  pub take_free : (m : FinMap key_cmp X) (k : List (List ℕ)) → IsPrefixFree m → IsPrefixFree (remove m k)
  take_free m k free = record { alone = λ p q has other begins. free.alone p q (left_at m k p has) (left_at m k q other) begins }

  -- Each key fits the empty map.
  pub fits_empty : (m : FinMap key_cmp X) (k : List (List ℕ)) → m ≡ empty → Fits m k
  fits_empty m k is = record {
    longer = record { alone = λ q has begins. absurd (none_there (get m q) (nothing q) has) };
    shorter = record { alone = λ q has begins. absurd (none_there (get m q) (nothing q) has) };
  } where
    nothing : (q : List (List ℕ)) → get m q ≡ None
    nothing q = ap (λ (w : FinMap key_cmp X). get w q) is ∙ get-empty key_cmp q

  -- Where no key is above k, or the next one does not begin with it, none does.
  pub longer_none : (m : FinMap key_cmp X) (k : List (List ℕ)) → HasNoneAfter m (Some k) → HasNoLonger m k
  longer_none m k after = record { alone = λ q has begins. go q has (prefix_order k q begins) } where
    go : (q : List (List ℕ)) → IsSome (get m q) → (k ≡ q) ⊎ (key_cmp k q ≡ Less) → k ≡ q
    go q has (inl e) = e
    go q has (inr l) = absurd (none_there (get m q) (after.none q l) has)

  pub longer_some : (m : FinMap key_cmp X) (k n : List (List ℕ)) (x : X) → IsLeastAfter m (Some k) n x → is_prefix k n ≡ false → HasNoLonger m k
  longer_some m k n x next ends = record { alone = λ q has begins. go q has begins (prefix_order k q begins) } where
    go : (q : List (List ℕ)) → IsSome (get m q) → IsTrue (is_prefix k q) → (k ≡ q) ⊎ (key_cmp k q ≡ Less) → k ≡ q
    go q has begins (inl e) = e
    go q has begins (inr l) = absurd (both_ways (is_prefix k n) ends (between k n q begins (below _ next.past) (next.least q l has)))

  -- Where no key is below k, or the last one is not its prefix, none is.
  pub shorter_none : (m : FinMap key_cmp X) (k : List (List ℕ)) → HasNoneBefore m k → HasNoShorter m k
  shorter_none m k before = record { alone = λ q has begins. go q has (prefix_order q k begins) } where
    go : (q : List (List ℕ)) → IsSome (get m q) → (q ≡ k) ⊎ (key_cmp q k ≡ Less) → q ≡ k
    go q has (inl e) = e
    go q has (inr l) = absurd (none_there (get m q) (before.none q l) has)

  pub shorter_some : (m : FinMap key_cmp X) (k n : List (List ℕ)) (x : X) → IsPrefixFree m → IsLastBefore m k n x → is_prefix n k ≡ false → HasNoShorter m k
  shorter_some m k n x free last ends = record { alone = λ q has begins. go q has begins (prefix_order q k begins) } where
    go : (q : List (List ℕ)) → IsSome (get m q) → IsTrue (is_prefix q k) → (q ≡ k) ⊎ (key_cmp q k ≡ Less) → q ≡ k
    go q has begins (inl e) = e
    go q has begins (inr l) =
        let one : q ≡ n = free.alone q n has (ap is_some last.stands) (between q n k begins (last.greatest q l has) (below _ last.below)) in
        absurd (both_ways (is_prefix n k) ends (subst (λ (p : List (List ℕ)). IsTrue (is_prefix p k)) one begins))

  -- A key above k that begins with it clashes.
  pub longer_clash : (m : FinMap key_cmp X) (k n : List (List ℕ)) (x : X) → IsLeastAfter m (Some k) n x → is_prefix k n ≡ true → Clashes m k
  longer_clash m k n x next begins = record {
    key = n;
    stands = ap is_some next.stands;
    overlap = or_left _ _ begins;
    differs =
        λ same. unlike k n next.past (sym same);
  }

  -- A key below k that is its prefix clashes.
  pub shorter_clash : (m : FinMap key_cmp X) (k n : List (List ℕ)) (x : X) → IsLastBefore m k n x → is_prefix n k ≡ true → Clashes m k
  shorter_clash m k n x last begins = record { key = n; stands = ap is_some last.stands; overlap = or_right _ _ begins; differs = unlike n k last.below }

pub ruleset prefix_rule = (empty_free, put_free, take_free, longer_none, longer_some, shorter_none, shorter_some, longer_clash, shorter_clash)
