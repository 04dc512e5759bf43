-- Tables of the same texts are one.
use Rattle.std.proofs.Common.{◌≡◌, ℕ, zero, suc, ◌<◌, false, true≢false, List, [], ◌∷◌, ◌++◌}
use Rattle.std.proofs.Common.{length, get_or, drop, Less, Equal, Greater, refl, sym, ◌∙◌, ap, subst, arith}
use Rattle.std.specs.Prelude.{Contains, AllPairs}
use Rattle.std.specs.declared.cmp.Ordering.{Ordering}
use Rattle.std.specs.Ordering.{is_lt, ordering_reverse}
use Rattle.std.proofs.lemmas.List.Sorted.{Contains-permutation, IsPermutation-sym}
use Rattle.key_names.specs.Order.{bytes_cmp, key_cmp, bytes_total, key_total, bytes_cmp-IsAntisymmetric, key_cmp-IsAntisymmetric}
use Rattle.typed_settings.specs.Order.{shape, cells, pattern_cmp, IsTable}
use Rattle.typed_settings.specs.Pattern.{Agree, Meet}
use Rattle.typed_settings.specs.Row.{built_in, IsTableOf}
use Rattle.typed_settings.specs.declared.place.Place.{Place}
use Rattle.typed_settings.specs.declared.place.Place.TheVariants.{Any, Plain}
use Rattle.typed_settings.specs.declared.row.Row.{Row}
use Rattle.typed_settings.proofs.OneTable.{one_list}
use Rattle.typed_settings.proofs.Orders.{shapes_rise, cells_rise}

-- ---- tables of the same texts have the same rows

pub same_rows : (texts : List (List ℕ × List ℕ)) (one other : List Row) (row : Row) → IsTableOf texts one → IsTableOf texts other → Contains one row
    → Contains other row
same_rows texts one other row is too among =
    let given : is.given ≡ too.given = one_list texts is.given too.given is.spelled too.spelled in
    Contains-permutation (built_in ++ too.given) other row too.rows
    (subst (λ (g : List Row). Contains (built_in ++ g) row) given (Contains-permutation one (built_in ++ is.given) row (IsPermutation-sym _ _ is.rows) among))

-- ---- rows that tie meet

-- What is neither before nor after ties.
ties : (r s : Ordering) → r ≡ ordering_reverse s → is_lt r ≡ false → is_lt s ≡ false → r ≡ Equal
ties Less s e r_not s_not = absurd (true≢false r_not)
ties Equal s e r_not s_not = refl
ties Greater Less e r_not s_not = absurd (true≢false s_not)
ties Greater Equal e r_not s_not = absurd (cc)
ties Greater Greater e r_not s_not = absurd (cc)

-- Patterns of the same shape and cells are one.
same_places : (one other : List Place) → shape one ≡ shape other → cells one ≡ cells other → one ≡ other
same_places [] [] ranks same = refl
same_places [] (y ∷ ys) ranks same = absurd (cc)
same_places (x ∷ xs) [] ranks same = absurd (cc)
same_places (Any ∷ xs) (Any ∷ ys) ranks same = ap (λ (l : List Place). Any ∷ l) (same_places xs ys (ap (drop 1) ranks) (ap (drop 1) same))
same_places (Plain a ∷ xs) (Plain b ∷ ys) ranks same =
    ap (λ (s : List ℕ). Plain s ∷ xs) (ap (λ l. get_or l 0 []) same) ∙ ap (λ (l : List Place). Plain b ∷ l)
    (same_places xs ys (ap (drop 1) ranks) (ap (drop 1) same))
same_places (Any ∷ xs) (Plain b ∷ ys) ranks same = absurd (omega (arith, ap (λ t. get_or t 0 0) ranks))
same_places (Plain a ∷ xs) (Any ∷ ys) ranks same = absurd (omega (arith, ap (λ t. get_or t 0 0) ranks))

-- Patterns of which neither comes before the other are one.
tied_patterns : (one other : List Place) → is_lt (pattern_cmp one other) ≡ false → is_lt (pattern_cmp other one) ≡ false → one ≡ other
tied_patterns one other first second = same_places one other shapes (key_cmp-IsAntisymmetric (cells one) (cells other) rows)
  where
    shapes : shape one ≡ shape other
    shapes = bytes_cmp-IsAntisymmetric (shape one) (shape other) (ties (bytes_cmp (shape one) (shape other)) (bytes_cmp (shape other) (shape one))
        (bytes_total.antisymm (shape one) (shape other)) (shapes_rise other one first) (shapes_rise one other second))

    rows : key_cmp (cells one) (cells other) ≡ Equal
    rows = ties (key_cmp (cells one) (cells other)) (key_cmp (cells other) (cells one)) (key_total.antisymm (cells one) (cells other))
        (cells_rise other one (sym shapes) first) (cells_rise one other shapes second)

agrees_itself : (x : Place) → Agree x x
agrees_itself Any = tt
agrees_itself (Plain segment) = refl

-- A pattern meets itself.
meets_itself : (pattern : List Place) → Meet pattern pattern
meets_itself pattern = record { agree = λ i. agrees_itself (get_or pattern i Any) }

-- ---- rows in their order

-- The first row isn't after the second in the order of patterns, and the two don't meet.
abbrev Before : Row → Row → Type 0
Before a b = (is_lt (pattern_cmp b.pattern a.pattern) ≡ false) × (Meet a.pattern b.pattern → ⊥)

one_way : (a b : Row) → Before a b → Before b a → ⊥
one_way a b there back = there.1 (subst (Meet a.pattern) (tied_patterns a.pattern b.pattern back.0 there.0) (meets_itself a.pattern))

tail_pairs : (x : Row) (xs : List Row) → AllPairs Before (x ∷ xs) → AllPairs Before xs
tail_pairs x xs all i j d before within = all (suc i) (suc j) d (omega (arith, before)) (omega (arith, within))

-- The first of a list comes before each that is after it.
first_before : (x r : Row) (xs : List Row) (i : ℕ) → AllPairs Before (x ∷ xs) → i < length xs → get_or xs i r ≡ r → Before x r
first_before x r xs i all within is = subst (Before x) is (all 0 (suc i) r (omega arith) (omega (arith, within)))

-- Of lists with the same rows the first are one.
same_first : (x y : Row) (xs ys : List Row) → AllPairs Before (x ∷ xs) → AllPairs Before (y ∷ ys) → Contains (y ∷ ys) x → Contains (x ∷ xs) y → x ≡ y
same_first x y xs ys all others (zero, within, is) other = sym is
same_first x y xs ys all others (suc i, within, is) (zero, within', is') = is'
same_first x y xs ys all others (suc i, within, is) (suc j, within', is') =
    absurd (one_way x y (first_before x y xs j all (omega (arith, within')) is') (first_before y x ys i others (omega (arith, within)) is))

-- And the rows after the first are the same.
same_behind : (x y : Row) (xs ys : List Row) → x ≡ y → AllPairs Before (x ∷ xs) → ((r : Row) → Contains (x ∷ xs) r → Contains (y ∷ ys) r) → (r : Row)
    → Contains xs r → Contains ys r
same_behind x y xs ys same all to r (i, within, is) = by (to r (suc i, omega (arith, within), is))
  where
    by : Contains (y ∷ ys) r → Contains ys r
    by (zero, w, e) =
        let before : Before r r = subst (λ (a : Row). Before a r) (same ∙ e) (first_before x r xs i all within is) in
        absurd (one_way r r before before)
    by (suc j, w, e) = (j, omega (arith, w), e)

one_order : (xs ys : List Row) → AllPairs Before xs → AllPairs Before ys → ((r : Row) → Contains xs r → Contains ys r)
    → ((r : Row) → Contains ys r → Contains xs r) → xs ≡ ys
one_order [] [] all others to from = refl
one_order [] (y ∷ ys) all others to from = let here : Contains [] y = from y (0, omega arith, refl) in absurd (omega (arith, here.1))
one_order (x ∷ xs) [] all others to from = let here : Contains [] x = to x (0, omega arith, refl) in absurd (omega (arith, here.1))
one_order (x ∷ xs) (y ∷ ys) all others to from =
    let same : x ≡ y = same_first x y xs ys all others (to x (0, omega arith, refl)) (from y (0, omega arith, refl)) in
    ap (λ (r : Row). r ∷ xs) same
    ∙ ap (λ (l : List Row). y ∷ l) (one_order xs ys (tail_pairs x xs all) (tail_pairs y ys others) (same_behind x y xs ys same all to)
    (same_behind y x ys xs (sym same) others from))

pairs : (rows : List Row) → IsTable rows → AllPairs Before rows
pairs rows is i j d before within = (is.ordered i j d before within, is.apart i j d before within)

-- Two tables of the same texts are one.
pub one_table : (texts : List (List ℕ × List ℕ)) (one other : List Row) → IsTable one → IsTable other → IsTableOf texts one → IsTableOf texts other
    → one ≡ other
one_table texts one other table table' is too =
    one_order one other (pairs one table) (pairs other table') (λ r. same_rows texts one other r is too) (λ r. same_rows texts other one r too is)
