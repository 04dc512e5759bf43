-- The search for the row that matches a key.
use Rattle.std.proofs.Common.{◌≡◌, ℕ, zero, suc, ◌+◌, ◌-◌, ◌<◌, ◌≤◌, true, false, true≢false, List, length}
use Rattle.std.proofs.Common.{get_or, take, drop, Less, Equal, Greater, sym, ◌∙◌, ap, subst, arith, ◌⊎◌, inl, inr}
use Rattle.std.specs.Prelude.{Contains}
use Rattle.std.specs.List.{AllWithin}
use Rattle.std.specs.List.Sorted.{IsSortedBy, IsNonDecreasingBy, IsPartitionedBy, IsPartitionPoint}
use Rattle.std.specs.Ordering.{is_lt, ordering_index}
use Rattle.std.proofs.lemmas.Bool.{cases_eq, cases_lt}
use Rattle.std.proofs.lemmas.List.{get_or-take, get_or-drop, get_or_default, length-take-le, length-drop}
use Rattle.std.proofs.lemmas.List.Sorted.{ranks_by, searchable_from_sorted, sorted_far}
use Rattle.key_names.specs.Order.{bytes_cmp, key_cmp, key_total}
use Rattle.typed_settings.proofs.Orders.{like_same, like_itself, like_between, shapes_rise, cells_rise}
use Rattle.typed_settings.proofs.Orders.{cells_at, order_cells, same_cells_at, same_len, fits_equal, equal_fits}
use Rattle.typed_settings.specs.Order.{shape, cells, signature, pattern_cmp, is_like, order_to, AreOrdered, AreAlike}
use Rattle.typed_settings.specs.Pattern.{Matches}
use Rattle.typed_settings.specs.Row.{HasRow, IsKnown}
use Rattle.typed_settings.specs.declared.row.Row.{Row}

-- ---- rows of one shape

-- Any two of them have one shape.
alike_at : (rows : List Row) → AreAlike rows → (i j : ℕ) (d : Row) → i < length rows → j < length rows
    → shape (get_or rows i d).pattern ≡ shape (get_or rows j d).pattern
alike_at rows alike i j d within within' = by_order (cases_lt i j) (cases_lt j i)
  where
    by_order : (i < j) ⊎ (j ≤ i) → (j < i) ⊎ (i ≤ j) → shape (get_or rows i d).pattern ≡ shape (get_or rows j d).pattern
    by_order (inl h) g = alike i j d h within'
    by_order (inr h) (inl g) = sym (alike j i d g within)
    by_order (inr h) (inr g) = let same : i ≡ j = omega (arith, h, g) in ap (λ n. shape (get_or rows n d).pattern) same

-- They ascend by their cells.
cells_sorted : (rows : List Row) → AreAlike rows → AreOrdered rows → IsSortedBy (λ a b. is_lt (key_cmp (cells a.pattern) (cells b.pattern))) rows
cells_sorted rows alike ordered k d low within =
    cells_rise (get_or rows k d).pattern (get_or rows (k + 1) d).pattern (alike k (k + 1) d (omega arith) within) (ordered k (k + 1) d (omega arith) within)

-- So they can be searched for a key that is as long as one of them.
pub searchable : (rows : List Row) (key : List (List ℕ)) → AreAlike rows → AreOrdered rows → (m : ℕ) (e : Row) → m < length rows
    → length key ≡ length (get_or rows m e).pattern → IsNonDecreasingBy (λ row. ordering_index (order_to row.pattern key)) rows
searchable rows key alike ordered m e within same_length i j d before within' =
    let sorted = searchable_from_sorted key_total (λ (row : Row). cells row.pattern) rows (cells_at (get_or rows m e).pattern key)
    (cells_sorted rows alike ordered) i j d before within' in
    omega (arith, sorted, ap ordering_index (as_cells i (omega (arith, before, within'))), ap ordering_index (as_cells j within'))
  where
    as_cells : (k : ℕ) → k < length rows → order_to (get_or rows k d).pattern key ≡ key_cmp (cells (get_or rows k d).pattern)
        (cells_at (get_or rows m e).pattern key)
    as_cells k here =
        let default : get_or rows m d ≡ get_or rows m e = get_or_default rows m d e within in
        let shapes : shape (get_or rows k d).pattern ≡ shape (get_or rows m e).pattern = alike_at rows alike k m d here within
        ∙ ap (λ (r : Row). shape r.pattern) default in
        order_cells (get_or rows k d).pattern key (same_len (get_or rows k d).pattern (get_or rows m e).pattern shapes ∙ sym same_length)
        ∙ ap (key_cmp (cells (get_or rows k d).pattern)) (same_cells_at (get_or rows k d).pattern (get_or rows m e).pattern key shapes)

-- A row that matches decides nothing.
pub decides_nothing : (row : Row) (key : List (List ℕ)) → Matches row.pattern key → order_to row.pattern key ≡ Equal
decides_nothing row key m = equal_fits row.pattern key (sym m.same_length) m.reaches.fits

-- Where the search finds no row, none matches.
pub not_found : (rows : List Row) (key : List (List ℕ)) (i : ℕ) → AreAlike rows → AreOrdered rows
    → (IsNonDecreasingBy (λ row. ordering_index (order_to row.pattern key)) rows → IsPartitionPoint (λ row. order_to row.pattern key ≡ Less)
    (λ row. order_to row.pattern key ≡ Greater) rows i) → IsKnown rows key → ⊥
not_found rows key i alike ordered searched (row, has) = at (cases_lt has.among.0 i)
  where
    there : get_or rows has.among.0 row ≡ row
    there = has.among.2

    point : IsPartitionPoint (λ row. order_to row.pattern key ≡ Less) (λ row. order_to row.pattern key ≡ Greater) rows i
    point = searched (searchable rows key alike ordered has.among.0 row has.among.1 (has.matches.same_length ∙ ap (λ (r : Row). length r.pattern) (sym there)))

    equal : order_to (get_or rows has.among.0 row).pattern key ≡ Equal
    equal = ap (λ (r : Row). order_to r.pattern key) there ∙ decides_nothing row key has.matches

    at : (has.among.0 < i) ⊎ (i ≤ has.among.0) → ⊥
    at (inl before) = let less : order_to (get_or rows has.among.0 row).pattern key ≡ Less = point.0 has.among.0 row (omega arith) before in
        absurd (cc (less, equal))
    at (inr behind) = let greater : order_to (get_or rows has.among.0 row).pattern key ≡ Greater = point.1 has.among.0 row behind has.among.1 in
        absurd (cc (greater, equal))

-- Nor does one where the row that it finds doesn't.
pub other_found : (rows : List Row) (key : List (List ℕ)) (i : ℕ) (found : Row) → AreAlike rows → i < length rows → found ≡ get_or rows i found
    → order_to found.pattern key ≡ Equal → (Matches found.pattern key → ⊥) → IsKnown rows key → ⊥
other_found rows key i found alike within is equal no_match (row, has) = no_match (record {
  same_length = same;
  reaches = record { long = omega (arith, same); fits = fits_equal found.pattern key (sym same) equal };
})
  where
    row_is : get_or rows has.among.0 found ≡ row
    row_is = get_or_default rows has.among.0 found row has.among.1 ∙ has.among.2

    same : length key ≡ length found.pattern
    same =
        has.matches.same_length ∙ same_len row.pattern found.pattern
        (ap (λ (r : Row). shape r.pattern) (sym row_is) ∙ alike_at rows alike has.among.0 i found has.among.1 within
        ∙ ap (λ (r : Row). shape r.pattern) (sym is))

-- ---- where the shape changes

-- The rows of the first shape come first.
pub partitioned : (rows : List Row) (first : Row) → first ≡ get_or rows 0 first → AreOrdered rows
    → IsPartitionedBy (λ row. is_like row.pattern first.pattern) rows
partitioned rows first is ordered i j d before within like = by_place (cases_eq i 0) (cases_lt i j)
  where
    first_is : (e : Row) → 0 < length rows → get_or rows 0 e ≡ first
    first_is e some = get_or_default rows 0 e first some ∙ sym is

    by_place : (i ≡ 0) ⊎ (i ≡ 0 → ⊥) → (i < j) ⊎ (j ≤ i) → is_like (get_or rows i d).pattern first.pattern ≡ true
    by_place (inl start) g = subst (λ (r : Row). is_like r.pattern first.pattern ≡ true)
        (sym (ap (λ n. get_or rows n d) start ∙ first_is d (omega (arith, within)))) (like_itself first.pattern)
    by_place (inr later) (inl h) =
        let low : get_or rows 0 d ≡ first = first_is d (omega (arith, within)) in
        like_between first.pattern (get_or rows i d).pattern (get_or rows j d).pattern
        (subst (λ (r : Row). is_lt (bytes_cmp (shape (get_or rows i d).pattern) (shape r.pattern)) ≡ false) low
        (shapes_rise (get_or rows 0 d).pattern (get_or rows i d).pattern (ordered 0 i d (omega (arith, later)) (omega (arith, before, within)))))
        (shapes_rise (get_or rows i d).pattern (get_or rows j d).pattern (ordered i j d h within)) like
    by_place (inr later) (inr h) = let same : j ≡ i = omega (arith, before, h) in subst (λ n. is_like (get_or rows n d).pattern first.pattern ≡ true) same like

-- The rows before that are alike.
pub front_alike : (rows : List Row) (first : Row) (n : ℕ) → n ≤ length rows → AllWithin (λ row. is_like row.pattern first.pattern ≡ true) rows 0 n
    → AreAlike (take n rows)
front_alike rows first n within likes i j d before here =
    let len = length-take-le n rows within in
    let one = get_or-take n rows i d (omega (arith, before, here, len)) in
    let other = get_or-take n rows j d (omega (arith, here, len)) in
    ap (λ (r : Row). shape r.pattern) one ∙ like_same (get_or rows i d).pattern first.pattern (likes i d (omega arith) (omega (arith, before, here, len)))
    ∙ sym (like_same (get_or rows j d).pattern first.pattern (likes j d (omega arith) (omega (arith, here, len))))
    ∙ ap (λ (r : Row). shape r.pattern) (sym other)

-- The first row is one of them.
pub front_some : (rows : List Row) (first : Row) (n : ℕ) → 0 < length rows → first ≡ get_or rows 0 first
    → AllWithin (λ row. is_like row.pattern first.pattern ≡ false) rows n (length rows) → 0 < n
front_some rows first zero some is others = absurd (true≢false (sym (like_itself first.pattern) ∙ ap (λ (r : Row). is_like r.pattern first.pattern) is
    ∙ others 0 first (omega arith) some))
front_some rows first (suc n) some is others = omega arith

-- ---- the front and what is after it

-- What is after it ascends.
pub back_ordered : (rows : List Row) (n : ℕ) → AreOrdered rows → AreOrdered (drop n rows)
back_ordered rows n ordered i j d before here =
    let len = length-drop n rows in
    rw (get_or-drop n rows i d, get_or-drop n rows j d) (ordered (n + i) (n + j) d (omega (arith, before)) (omega (arith, here, len)))

-- A row after it is one of the rows.
pub back_among : (rows : List Row) (n : ℕ) (row : Row) → Contains (drop n rows) row → Contains rows row
back_among rows n row (k, here, is) = (n + k, omega (arith, here, length-drop n rows), sym (get_or-drop n rows k row) ∙ is)

-- A row that matches, and isn't in the front, is after it.
pub back_has : (rows : List Row) (key : List (List ℕ)) (n : ℕ) (row : Row) → n ≤ length rows → (IsKnown (take n rows) key → ⊥) → HasRow rows key row
    → HasRow (drop n rows) key row
back_has rows key n row within none has = at (cases_lt has.among.0 n)
  where
    at : (has.among.0 < n) ⊎ (n ≤ has.among.0) → HasRow (drop n rows) key row
    at (inl before) = absurd (none (
      row,
      record {
        among = (has.among.0, omega (arith, before, length-take-le n rows within), get_or-take n rows has.among.0 row before ∙ has.among.2);
        matches = has.matches;
      },
    ))
    at (inr behind) = record {
      among = (
        has.among.0 - n,
        omega (arith, behind, has.among.1, length-drop n rows),
        get_or-drop n rows (has.among.0 - n) row
            ∙ ap (λ m. get_or rows m row) (omega (arith, behind)) ∙ has.among.2,
      );
      matches = has.matches;
    }

-- ---- what is sorted

-- Sorted rows ascend.
pub sorted_ordered : (rows : List Row) → IsSortedBy (λ a b. is_lt (pattern_cmp a.pattern b.pattern)) rows → AreOrdered rows
sorted_ordered rows sorted i j d before within =
    sorted_far (λ (a b : Row). is_lt (pattern_cmp a.pattern b.pattern)) (ranks_by key_total (λ (row : Row). signature row.pattern)) rows sorted i j d
    (omega (arith, before)) within
