-- Texts spell one row each, and so one list of rows.
use Rattle.std.proofs.Common.{◌≡◌, ◌≢◌, ℕ, zero, suc, ◌+◌, ◌<◌, ◌≤◌, List, [], ◌∷◌, ◌++◌}
use Rattle.std.proofs.Common.{length, get_or, take, refl, true≢false, sym, ◌∙◌, ap, subst, arith, ◌⊎◌, inl, inr}
use Rattle.std.proofs.lemmas.Bool.{cases_lt}
use Rattle.std.proofs.lemmas.List.{get_or-take, length-take, take_more}
use Rattle.std.specs.Prelude.{Result, Ok, Err}
use Rattle.std.specs.Result.{IsErr}
use Rattle.std.specs.List.{All}
use Rattle.typed_settings.proofs.PlaceTexts.{one_joined}
use Rattle.typed_settings.proofs.WordTexts.{one_word}
use Rattle.typed_settings.specs.Faults.{HasFault, IsFault, IsNoFault}
use Rattle.typed_settings.specs.Pattern.{Meet}
use Rattle.typed_settings.specs.Row.{SpellsRow, AreSpelled, IsOfSettings, IsFirstBad, IsLeastPair, IsTableOf, AreApart}
use Rattle.typed_settings.specs.declared.row.Row.{Row}
use Rattle.typed_settings.specs.declared.rows_error.RowsError.{RowsError}
use Rattle.typed_settings.specs.declared.rows_error.RowsError.TheVariants as error

-- Two texts spell one row.
pub one_spelled : (texts : List ℕ × List ℕ) (r s : Row) → SpellsRow texts r → SpellsRow texts s → r ≡ s
one_spelled texts r s a b =
    let patterns : r.pattern ≡ s.pattern = one_joined texts.0 r.pattern s.pattern a.pattern.spells b.pattern.spells in
    let words : r.word ≡ s.word = one_word texts.1 r.word s.word a.word b.word in
    let texts_are : r.text ≡ s.text = a.text ∙ sym b.text in
    λ i. record { pattern = patterns i; word = words i; text = texts_are i }

-- Texts spell one list of rows.
pub one_list : (texts : List (List ℕ × List ℕ)) (rows others : List Row) → AreSpelled texts rows → AreSpelled texts others → rows ≡ others
one_list [] [] [] a b = refl
one_list [] [] (y ∷ ys) a b = absurd b
one_list [] (x ∷ xs) ys a b = absurd a
one_list (t ∷ ts) [] ys a b = absurd a
one_list (t ∷ ts) (x ∷ xs) [] a b = absurd b
one_list (t ∷ ts) (x ∷ xs) (y ∷ ys) a b =
    let first : x ≡ y = one_spelled t x y a.0 b.0 in
    let rest : xs ≡ ys = one_list ts xs ys a.1 b.1 in
    cc

-- Each row that is given is of the settings.
pub all_of_settings : (texts : List (List ℕ × List ℕ)) (rows : List Row) → AreSpelled texts rows → All (λ row. IsOfSettings row.pattern) rows
all_of_settings [] [] a k d within = absurd (omega (arith, within))
all_of_settings [] (x ∷ xs) a k d within = absurd a
all_of_settings (t ∷ ts) [] a k d within = absurd a
all_of_settings (t ∷ ts) (x ∷ xs) a zero d within = a.0.of_settings
all_of_settings (t ∷ ts) (x ∷ xs) a (suc k) d within = all_of_settings ts xs a.1 k d (omega (arith, within))

-- Some row, where there is one.
some_row : (rows : List Row) (index : ℕ) → index < length rows → Row
some_row [] index within = absurd (omega (arith, within))
some_row (x ∷ xs) index within = x

-- There are as many rows as texts.
same_length : (texts : List (List ℕ × List ℕ)) (rows : List Row) → AreSpelled texts rows → length texts ≡ length rows
same_length [] [] a = refl
same_length [] (x ∷ xs) a = absurd a
same_length (t ∷ ts) [] a = absurd a
same_length (t ∷ ts) (x ∷ xs) a = omega (arith, same_length ts xs a.1)

-- Each row is spelled by the texts at its place.
spelled_at : (texts : List (List ℕ × List ℕ)) (rows : List Row) (i : ℕ) (d : Row) → AreSpelled texts rows → i < length texts
    → SpellsRow (get_or texts i ([], [])) (get_or rows i d)
spelled_at [] rows i d a within = absurd (omega (arith, within))
spelled_at (t ∷ ts) [] i d a within = absurd a
spelled_at (t ∷ ts) (x ∷ xs) zero d a within = a.0
spelled_at (t ∷ ts) (x ∷ xs) (suc i) d a within = spelled_at ts xs i d a.1 (omega (arith, within))

-- Where all texts spell rows, none is bad.
none_bad : (texts : List (List ℕ × List ℕ)) (rows : List Row) (index : ℕ) → AreSpelled texts rows → IsFirstBad texts index → ⊥
none_bad texts rows index spelled bad =
    let d = some_row rows index (omega (arith, bad.within, same_length texts rows spelled)) in
    bad.bad (get_or rows index d) (spelled_at texts rows index d spelled bad.within)

-- The first of the first.
take_shorter : {X : Type 0} (i j : ℕ) (xs : List X) → i < j → take i (take j xs) ≡ take i xs
take_shorter zero j xs h = refl
take_shorter (suc i) zero xs h = absurd (omega (arith, h))
take_shorter (suc i) (suc j) [] h = refl
take_shorter (suc i) (suc j) (x ∷ xs) h = ap (λ t. x ∷ t) (take_shorter i j xs (omega (arith, h)))

-- One index at most is the first bad.
one_bad : (texts : List (List ℕ × List ℕ)) (i j : ℕ) → IsFirstBad texts i → IsFirstBad texts j → i ≡ j
one_bad texts i j a b = by_order (cases_lt i j) (cases_lt j i)
  where
    not_before : (i j : ℕ) → IsFirstBad texts i → IsFirstBad texts j → i < j → ⊥
    not_before i j a b before = none_bad (take j texts) b.before i b.spelled (record {
      within = omega (arith, length-take j texts, a.within);
      before = a.before;
      spelled = subst (λ t. AreSpelled t a.before) (sym (take_shorter i j texts before)) a.spelled;
      bad = subst (λ t. (row : Row) → SpellsRow t row → ⊥) (sym (get_or-take j texts i ([], []) before)) a.bad;
    })

    by_order : (i < j) ⊎ (j ≤ i) → (j < i) ⊎ (i ≤ j) → i ≡ j
    by_order (inl h) g = absurd (not_before i j a b h)
    by_order (inr h) (inl g) = absurd (not_before j i b a g)
    by_order (inr h) (inr g) = omega (arith, h, g)

-- Where no two rows meet, no pair is the least that does.
none_meeting : (rows : List Row) (first second : ℕ) → AreApart rows → IsLeastPair rows first second → ⊥
none_meeting rows first second apart pair =
    let d = some_row rows second pair.within in apart first second d pair.ordered pair.within (pair.meet d)

-- One pair at most is the least that meets.
one_pair : (rows : List Row) (i j k l : ℕ) → IsLeastPair rows i j → IsLeastPair rows k l → (i ≡ k) × (j ≡ l)
one_pair rows i j k l a b = (by_first (cases_lt i k) (cases_lt k i), seconds)
  where
    not_before : (i j k l : ℕ) → IsLeastPair rows i j → IsLeastPair rows k l → j < l → ⊥
    not_before i j k l a b before =
        let d = some_row rows j a.within in
        let first : get_or (take l rows) i d ≡ get_or rows i d = get_or-take l rows i d (omega (arith, a.ordered)) in
        let second : get_or (take l rows) j d ≡ get_or rows j d = get_or-take l rows j d before in
        b.least_second i j d a.ordered (omega (arith, length-take l rows, b.within))
        (subst (λ x. Meet x.pattern (get_or (take l rows) j d).pattern) (sym first)
        (subst (λ y. Meet (get_or rows i d).pattern y.pattern) (sym second) (a.meet d)))

    by_second : (j < l) ⊎ (l ≤ j) → (l < j) ⊎ (j ≤ l) → j ≡ l
    by_second (inl h) g = absurd (not_before i j k l a b h)
    by_second (inr h) (inl g) = absurd (not_before k l i j b a g)
    by_second (inr h) (inr g) = omega (arith, h, g)

    seconds : j ≡ l
    seconds = by_second (cases_lt j l) (cases_lt l j)

    by_first : (i < k) ⊎ (k ≤ i) → (k < i) ⊎ (i ≤ k) → i ≡ k
    by_first (inl h) g = let d = some_row rows j a.within in absurd (b.least_first i d h
        (subst (λ n. Meet (get_or rows i d).pattern (get_or rows n d).pattern) seconds (a.meet d)))
    by_first (inr h) (inl g) = let d = some_row rows j a.within in absurd
        (a.least_first k d g (subst (λ n. Meet (get_or rows k d).pattern (get_or rows n d).pattern) (sym seconds) (b.meet d)))
    by_first (inr h) (inr g) = omega (arith, h, g)

-- Texts have one fault at most.
pub one_fault : (texts : List (List ℕ × List ℕ)) (e f : RowsError) → HasFault texts e → HasFault texts f → e ≡ f
one_fault texts (error.BadRow i) (error.BadRow j) a b = ap error.BadRow (one_bad texts i j a b)
one_fault texts (error.BadRow i) (error.Meet k l) a b = absurd (none_bad texts b.given i b.spelled a)
one_fault texts (error.Meet i j) (error.BadRow k) a b = absurd (none_bad texts a.given k a.spelled b)
one_fault texts (error.Meet i j) (error.Meet k l) a b =
    let same = one_pair b.given i j k l (subst (λ rows. IsLeastPair rows i j) (one_list texts a.given b.given a.spelled b.spelled) a.least) b.least in
    let firsts : i ≡ k = same.0 in
    let seconds : j ≡ l = same.1 in
    cc
one_fault texts error.Memory f a b = absurd a
one_fault texts e error.Memory a b = absurd b

-- Texts of which a table is made have none.
pub no_fault : (texts : List (List ℕ × List ℕ)) (table : List Row) (e : RowsError) → IsTableOf texts table → HasFault texts e → ⊥
no_fault texts table (error.BadRow i) is a = none_bad texts is.given i is.spelled a
no_fault texts table (error.Meet i j) is a = none_meeting is.given i j is.apart
    (subst (λ rows. IsLeastPair rows i j) (one_list texts a.given is.given a.spelled is.spelled) a.least)
no_fault texts table error.Memory is a = a

-- A fault that is answered is the one that the texts have.
pub exact_fault : {T : Type 0} (texts : List (List ℕ × List ℕ)) (result : Result T RowsError) → IsErr result
    → ((fault : RowsError) → result ≡ Err fault → fault ≢ error.Memory → HasFault texts fault) → (fault : RowsError) → HasFault texts fault
    → IsFault error.Memory result fault
exact_fault texts (Ok value) refused answered fault has = absurd (true≢false (sym refused))
exact_fault texts (Err e) refused answered fault has = λ other. one_fault texts e fault (answered e refl other) has

-- Where a table is made of them, the error is out of memory.
pub exact_none : {T : Type 0} (texts : List (List ℕ × List ℕ)) (result : Result T RowsError) → IsErr result
    → ((fault : RowsError) → result ≡ Err fault → fault ≢ error.Memory → HasFault texts fault) → (table : List Row) → IsTableOf texts table
    → IsNoFault error.Memory result
exact_none texts (Ok value) refused answered table is = tt
exact_none texts (Err (error.BadRow i)) refused answered table is = absurd
    (no_fault texts table (error.BadRow i) is (answered (error.BadRow i) refl (λ e. absurd (cc))))
exact_none texts (Err (error.Meet i j)) refused answered table is = absurd
    (no_fault texts table (error.Meet i j) is (answered (error.Meet i j) refl (λ e. absurd (cc))))
exact_none texts (Err error.Memory) refused answered table is = refl

-- ---- one row after another

-- One more row is spelled.
pub spelled_more : (texts : List (List ℕ × List ℕ)) (rows : List Row) (i : ℕ) (two : List ℕ × List ℕ) (row : Row) → i < length texts → two ≡ get_or texts i two
    → AreSpelled (take i texts) rows → SpellsRow two row → AreSpelled (take (i + 1) texts) (rows ++ row ∷ [])
spelled_more texts rows i two row within is spelled more =
    let grown : take (i + 1) texts ≡ take i texts ++ two ∷ [] = take_more texts i two within ∙ ap (λ t. take i texts ++ t ∷ []) (sym is) in
    subst (λ t. AreSpelled t (rows ++ row ∷ [])) (sym grown) (push (take i texts) rows spelled)
  where
    push : (done : List (List ℕ × List ℕ)) (rows : List Row) → AreSpelled done rows → AreSpelled (done ++ two ∷ []) (rows ++ row ∷ [])
    push [] [] a = (more, tt)
    push [] (x ∷ xs) a = absurd a
    push (t ∷ ts) [] a = absurd a
    push (t ∷ ts) (x ∷ xs) a = (a.0, push ts xs a.1)
