-- The order of patterns, and how it finds the pattern that matches a key.
use Rattle.std.proofs.Common.{◌≡◌, ℕ, zero, suc, ◌<◌, ◌≤◌, min, true, false, true≢false, List, []}
use Rattle.std.proofs.Common.{◌∷◌, length, get_or, drop, Less, Equal, Greater, refl, sym, ◌∙◌, ap, subst, arith}
use Rattle.std.specs.declared.cmp.Ordering.{Ordering}
use Rattle.std.specs.Ordering.{is_eq, is_lt, ordering_then, ordering_reverse}
use Rattle.key_names.specs.Order.{bytes_cmp, key_cmp, bytes_total, bytes_cmp-IsAntisymmetric}
use Rattle.typed_settings.specs.Order.{shape, cells, pattern_cmp, is_like, order_to}
use Rattle.typed_settings.specs.Pattern.{Fits}
use Rattle.typed_settings.specs.declared.place.Place.{Place}
use Rattle.typed_settings.specs.declared.place.Place.TheVariants.{Any, Plain}

-- What ties with itself.
ties_itself : (r : Ordering) → r ≡ ordering_reverse r → r ≡ Equal
ties_itself Less e = absurd (cc)
ties_itself Equal e = refl
ties_itself Greater e = absurd (cc)

-- Bytes tie with themselves.
pub bytes_tie : (xs : List ℕ) → bytes_cmp xs xs ≡ Equal
bytes_tie xs = ties_itself (bytes_cmp xs xs) (bytes_total.antisymm xs xs)

-- What passes the test for `Equal` is `Equal`.
is_eq-Equal : (r : Ordering) → is_eq r ≡ true → r ≡ Equal
is_eq-Equal Less e = absurd (true≢false (sym e))
is_eq-Equal Equal e = refl
is_eq-Equal Greater e = absurd (true≢false (sym e))

-- Patterns that are alike have one shape.
pub like_same : (one other : List Place) → is_like one other ≡ true → shape one ≡ shape other
like_same one other like = bytes_cmp-IsAntisymmetric (shape one) (shape other) (is_eq-Equal (bytes_cmp (shape one) (shape other)) like)

-- A pattern is like itself.
pub like_itself : (one : List Place) → is_like one one ≡ true
like_itself one = ap is_eq (bytes_tie (shape one))

-- A shape that is between the same shape twice is that shape.
pub like_between : (low mid high : List Place) → is_lt (bytes_cmp (shape mid) (shape low)) ≡ false → is_lt (bytes_cmp (shape high) (shape mid)) ≡ false
    → is_like high low ≡ true → is_like mid low ≡ true
like_between low mid high up on like =
    let same = like_same high low like in
    between (bytes_cmp (shape mid) (shape low)) (bytes_cmp (shape low) (shape mid)) (bytes_total.antisymm (shape mid) (shape low)) up
    (ap (λ t. is_lt (bytes_cmp t (shape mid))) (sym same) ∙ on)
  where
    between : (r s : Ordering) → r ≡ ordering_reverse s → is_lt r ≡ false → is_lt s ≡ false → is_eq r ≡ true
    between Less s e r_not s_not = absurd (true≢false r_not)
    between Equal s e r_not s_not = refl
    between Greater Less e r_not s_not = absurd (true≢false s_not)
    between Greater Equal e r_not s_not = absurd (cc)
    between Greater Greater e r_not s_not = absurd (cc)

-- A pattern that isn't before another has no shape before the other's.
pub shapes_rise : (one other : List Place) → is_lt (pattern_cmp other one) ≡ false → is_lt (bytes_cmp (shape other) (shape one)) ≡ false
shapes_rise one other = first (bytes_cmp (shape other) (shape one)) (key_cmp (cells other) (cells one))
  where
    first : (r s : Ordering) → is_lt (ordering_then r s) ≡ false → is_lt r ≡ false
    first Less s e = e
    first Equal s e = refl
    first Greater s e = refl

-- Nor, where the shapes are the same, cells before the other's.
pub cells_rise : (one other : List Place) → shape one ≡ shape other → is_lt (pattern_cmp other one) ≡ false → is_lt (key_cmp (cells other) (cells one)) ≡ false
cells_rise one other same not_before = subst (λ r. is_lt (ordering_then r (key_cmp (cells other) (cells one))) ≡ false) tie not_before
  where
    tie : bytes_cmp (shape other) (shape one) ≡ Equal
    tie = ap (bytes_cmp (shape other)) same ∙ bytes_tie (shape other)

-- Where one of the two is through, no place decides.
pub through : (places : List Place) (key : List (List ℕ)) (i : ℕ) → min (length places) (length key) ≤ i → order_to (drop i places) (drop i key) ≡ Equal
through [] key i past = of_none i
  where
    of_none : (i : ℕ) → order_to (drop i []) (drop i key) ≡ Equal
    of_none zero = refl
    of_none (suc i) = refl
through (x ∷ places) [] zero past = refl
through (x ∷ places) [] (suc i) past = of_end (drop i places)
  where
    of_end : (rest : List Place) → order_to rest [] ≡ Equal
    of_end [] = refl
    of_end (y ∷ rest) = refl
through (x ∷ places) (s ∷ key) zero past = absurd (omega (arith, past))
through (x ∷ places) (s ∷ key) (suc i) past = through places key i (omega (arith, past))

-- ---- keys

-- A pattern's cells with the key's segments at the plain places.
abbrev pub cells_at : List Place → List (List ℕ) → List (List ℕ)
cells_at [] key = []
cells_at (x ∷ places) [] = []
cells_at (Any ∷ places) (segment ∷ key) = [] ∷ cells_at places key
cells_at (Plain own ∷ places) (segment ∷ key) = segment ∷ cells_at places key

-- How a pattern compares to a key is how its cells compare to these.
pub order_cells : (places : List Place) (key : List (List ℕ)) → length places ≡ length key → order_to places key ≡ key_cmp (cells places) (cells_at places key)
order_cells [] [] same = refl
order_cells [] (s ∷ key) same = absurd (omega (arith, same))
order_cells (x ∷ places) [] same = absurd (omega (arith, same))
order_cells (Any ∷ places) (s ∷ key) same = order_cells places key (omega (arith, same))
order_cells (Plain own ∷ places) (s ∷ key) same = ap (ordering_then (bytes_cmp own s)) (order_cells places key (omega (arith, same)))

-- Patterns of one shape have the same.
pub same_cells_at : (places others : List Place) (key : List (List ℕ)) → shape places ≡ shape others → cells_at places key ≡ cells_at others key
same_cells_at [] [] key same = refl
same_cells_at [] (y ∷ others) key same = absurd (cc)
same_cells_at (x ∷ places) [] key same = absurd (cc)
same_cells_at (x ∷ places) (y ∷ others) [] same = refl
same_cells_at (Any ∷ places) (Any ∷ others) (s ∷ key) same = ap (λ t. [] ∷ t) (same_cells_at places others key (ap (drop 1) same))
same_cells_at (Plain m ∷ places) (Plain n ∷ others) (s ∷ key) same = ap (λ t. s ∷ t) (same_cells_at places others key (ap (drop 1) same))
same_cells_at (Any ∷ places) (Plain n ∷ others) (s ∷ key) same = absurd (omega (arith, ap (λ t. get_or t 0 0) same))
same_cells_at (Plain m ∷ places) (Any ∷ others) (s ∷ key) same = absurd (omega (arith, ap (λ t. get_or t 0 0) same))

-- And the same length.
pub same_len : (places others : List Place) → shape places ≡ shape others → length places ≡ length others
same_len [] [] same = refl
same_len [] (y ∷ others) same = absurd (cc)
same_len (x ∷ places) [] same = absurd (cc)
same_len (x ∷ places) (y ∷ others) same = omega (arith, same_len places others (ap (drop 1) same))

-- Both tie, where one and then the other do.
both_equal : (a b : Ordering) → ordering_then a b ≡ Equal → (a ≡ Equal) × (b ≡ Equal)
both_equal Less b e = absurd (cc)
both_equal Equal b e = (refl, e)
both_equal Greater b e = absurd (cc)

-- A pattern fits a key where no place decides.
pub fits_equal : (places : List Place) (key : List (List ℕ)) → length places ≡ length key → order_to places key ≡ Equal → (i : ℕ) → i < length key
    → Fits (get_or places i Any) (get_or key i [])
fits_equal [] key same equal i within = absurd (omega (arith, same, within))
fits_equal (x ∷ places) [] same equal i within = absurd (omega (arith, within))
fits_equal (Any ∷ places) (s ∷ key) same equal zero within = tt
fits_equal (Any ∷ places) (s ∷ key) same equal (suc i) within = fits_equal places key (omega (arith, same)) equal i (omega (arith, within))
fits_equal (Plain own ∷ places) (s ∷ key) same equal zero within = bytes_cmp-IsAntisymmetric own s (both_equal (bytes_cmp own s) (order_to places key) equal).0
fits_equal (Plain own ∷ places) (s ∷ key) same equal (suc i) within = fits_equal places key (omega (arith, same))
    (both_equal (bytes_cmp own s) (order_to places key) equal).1 i (omega (arith, within))

-- And none does where it fits.
pub equal_fits : (places : List Place) (key : List (List ℕ)) → length places ≡ length key
    → ((i : ℕ) → i < length key → Fits (get_or places i Any) (get_or key i [])) → order_to places key ≡ Equal
equal_fits [] key same fits = refl
equal_fits (x ∷ places) [] same fits = refl
equal_fits (Any ∷ places) (s ∷ key) same fits = equal_fits places key (omega (arith, same)) (λ i within. fits (suc i) (omega (arith, within)))
equal_fits (Plain own ∷ places) (s ∷ key) same fits =
    let own_is : own ≡ s = fits 0 (omega arith) in
    let first : bytes_cmp own s ≡ Equal = ap (bytes_cmp own) (sym own_is) ∙ bytes_tie own in
    ap (λ o. ordering_then o (order_to places key)) first ∙ equal_fits places key (omega (arith, same)) (λ i within. fits (suc i) (omega (arith, within)))
