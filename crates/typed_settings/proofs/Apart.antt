-- Where no two rows meet, one row at most matches a key, and no known key begins another.
use Rattle.std.proofs.Common.{◌≡◌, ℕ, zero, suc, ◌<◌, ◌≤◌, List, [], ◌∷◌, ◌++◌, length}
use Rattle.std.proofs.Common.{get_or, length-append, sym, ◌∙◌, ap, subst, refl, true≢false, arith, ◌⊎◌, inl, inr}
use Rattle.std.proofs.lemmas.Bool.{cases_eq, cases_lt}
use Rattle.std.proofs.lemmas.List.{append-nil, get_or_append_left, get_or_past, get_or_default}
use Rattle.typed_settings.specs.Pattern.{Fits, Agree, Matches, Meet}
use Rattle.json_trees.specs.declared.scalar.Scalar.{Scalar}
use Rattle.typed_settings.specs.Takes.{takes}
use Rattle.typed_settings.specs.Faults.{IsIllTyped}
use Rattle.std.specs.Prelude.{codes, Some, None}
use Rattle.std.specs.List.{All, AllPairs, swap}
use Rattle.std.specs.List.Sorted.{IsPermutation}
use Rattle.std.proofs.lemmas.List.Edits.{Swapped, swapped_from_swap, length-swap}
use Rattle.std.proofs.lemmas.List.Sorted.{IsPermutation-keeps}
use Rattle.typed_settings.specs.declared.item_word.ItemWord.TheVariants.{Identifier, Text}
use Rattle.typed_settings.specs.declared.word.Word.TheVariants as word
use Rattle.typed_settings.specs.Row.{AreApart, IsOfSettings, built_in, row_with, HasRow, IsTyped, HasOneRow, IsPrefixFree}
use Rattle.typed_settings.specs.declared.type_error.TypeError.{TypeError}
use Rattle.typed_settings.specs.declared.type_error.TypeError.TheVariants as error
use Rattle.typed_settings.specs.declared.place.Place.{Place}
use Rattle.typed_settings.specs.declared.place.Place.TheVariants.{Any, Plain}
use Rattle.typed_settings.specs.declared.row.Row.{Row}

-- Places that fit one segment agree.
agree_of : (x y : Place) (segment : List ℕ) → Fits x segment → Fits y segment → Agree x y
agree_of Any y segment a b = tt
agree_of (Plain m) Any segment a b = tt
agree_of (Plain m) (Plain n) segment a b = a ∙ sym b

-- To agree goes both ways.
agree_back : (x y : Place) → Agree x y → Agree y x
agree_back Any Any a = tt
agree_back Any (Plain n) a = tt
agree_back (Plain m) Any a = tt
agree_back (Plain m) (Plain n) a = sym a

-- So does to meet.
meet_back : (p q : List Place) → Meet p q → Meet q p
meet_back p q meet = record { agree = λ i. agree_back (get_or p i Any) (get_or q i Any) (meet.agree i) }

-- Patterns that match a key and one that begins with it meet.
pub meet_along : (p q : List Place) (key more : List (List ℕ)) → Matches p key → Matches q (key ++ more) → Meet p q
meet_along p q key more m n = record { agree = λ i. at i (cases_lt i (length p)) }
  where
    at : (i : ℕ) → (i < length p) ⊎ (length p ≤ i) → Agree (get_or p i Any) (get_or q i Any)
    at i (inl h) =
        let within : i < length key = omega (arith, m.same_length) in
        let longer : i < length (key ++ more) = omega (arith, length-append key more) in
        let there = subst (λ s. Fits (get_or q i Any) s) (get_or_append_left key more [] i within) (n.reaches.fits i longer) in
        agree_of (get_or p i Any) (get_or q i Any) (get_or key i []) (m.reaches.fits i within) there
    at i (inr h) = subst (λ x. Agree x (get_or q i Any)) (sym (get_or_past p i Any h)) tt

module _ (table : List Row) (apart : AreApart table) where
  -- One row at most matches a key.
  pub one_row : (key : List (List ℕ)) → HasOneRow table key
  one_row key = record { one = λ i j d within within' m n. at i j d within within' m n (cases_lt i j) (cases_lt j i) }
    where
      both : (p q : List Place) → Matches p key → Matches q key → Meet p q
      both p q m n = meet_along p q key [] m (subst (λ k. Matches q k) (sym (append-nil key)) n)

      at : (i j : ℕ) (d : Row) → i < length table → j < length table → Matches (get_or table i d).pattern key → Matches (get_or table j d).pattern key
          → (i < j) ⊎ (j ≤ i) → (j < i) ⊎ (i ≤ j) → i ≡ j
      at i j d within within' m n (inl h) g = absurd (apart i j d h within' (both _ _ m n))
      at i j d within within' m n (inr h) (inl g) = absurd (apart j i d g within (both _ _ n m))
      at i j d within within' m n (inr h) (inr g) = omega (arith, h, g)

  -- No known key begins another.
  pub prefix_free : IsPrefixFree table
  prefix_free = record { free = λ key more known known'. of_rows key more known.0 known'.0 known.1 known'.1 }
    where
      of_rows : (key more : List (List ℕ)) (r s : Row) → HasRow table key r → HasRow table (key ++ more) s → more ≡ []
      of_rows key more r s has has' = at (cases_lt k j) (cases_lt j k)
        where
          k : ℕ
          k = has.among.0

          j : ℕ
          j = has'.among.0

          meet : Meet r.pattern s.pattern
          meet = meet_along r.pattern s.pattern key more has.matches has'.matches

          -- The second row, read with the first as the default.
          s_is : get_or table j r ≡ s
          s_is = get_or_default table j r s has'.among.1 ∙ has'.among.2

          nothing : (xs : List (List ℕ)) → length xs ≡ 0 → xs ≡ []
          nothing [] e = refl
          nothing (x ∷ xs) e = absurd (omega (arith, e))

          at : (k < j) ⊎ (j ≤ k) → (j < k) ⊎ (k ≤ j) → more ≡ []
          at (inl h) g = absurd (apart k j r h has'.among.1 (subst (λ a. Meet a.pattern (get_or table j r).pattern) (sym has.among.2)
              (subst (λ b. Meet r.pattern b.pattern) (sym s_is) meet)))
          at (inr h) (inl g) = absurd (apart j k r g has.among.1 (subst (λ b. Meet (get_or table j r).pattern b.pattern) (sym has.among.2)
              (subst (λ a. Meet a.pattern r.pattern) (sym s_is) (meet_back r.pattern s.pattern meet))))
          at (inr h) (inr g) =
              let same_place : k ≡ j = omega (arith, h, g) in
              let same : r ≡ s = sym has.among.2 ∙ ap (λ n. get_or table n r) same_place ∙ s_is in
              let lengths : length (key ++ more) ≡ length key = has'.matches.same_length ∙ ap (λ x. length x.pattern) (sym same)
              ∙ sym has.matches.same_length in
              nothing more (omega (arith, lengths, length-append key more))

  -- The row that matches a key is one.
  pub same_row : (key : List (List ℕ)) (r s : Row) → HasRow table key r → HasRow table key s → r ≡ s
  same_row key r s has has' =
      let k = has.among.0 in
      let j = has'.among.0 in
      let second : get_or table j r ≡ s = get_or_default table j r s has'.among.1 ∙ has'.among.2 in
      let places : k ≡ j = (one_row key).one k j r has.among.1 has'.among.1 (subst (λ x. Matches x.pattern key) (sym has.among.2) has.matches)
      (subst (λ x. Matches x.pattern key) (sym second) has'.matches) in
      sym has.among.2 ∙ ap (λ n. get_or table n r) places ∙ second

  -- A value may be at a key, or not, for one cause.
  pub one_cause : (key : List (List ℕ)) (value : Scalar) (e f : TypeError) → IsIllTyped table key value e → IsIllTyped table key value f → e ≡ f
  one_cause key value (error.Unknown k) (error.Unknown l) a b = ap error.Unknown (a.0 ∙ sym b.0)
  one_cause key value (error.Unknown k) (error.Wrong l wanted) a b = absurd (a.1 (b.1.row, b.1.has))
  one_cause key value (error.Wrong k wanted) (error.Unknown l) a b = absurd (b.1 (a.1.row, a.1.has))
  one_cause key value (error.Wrong k wanted) (error.Wrong l wanted') a b =
      let keys : k ≡ l = a.0 ∙ sym b.0 in
      let texts : wanted ≡ wanted' = a.1.wanted_is ∙ ap (λ r. r.text) (same_row key a.1.row b.1.row a.1.has b.1.has) ∙ sym b.1.wanted_is in
      cc
  one_cause key value error.Memory f a b = absurd a
  one_cause key value e error.Memory a b = absurd b

  -- A value that may be there has none.
  pub no_cause : (key : List (List ℕ)) (value : Scalar) (e : TypeError) → IsTyped table key value → IsIllTyped table key value e → ⊥
  no_cause key value (error.Unknown k) is a = a.1 (is.row, is.has)
  no_cause key value (error.Wrong k wanted) is a = true≢false (sym is.taken ∙ ap (λ r. takes r.word value) (same_row key is.row a.1.row is.has a.1.has)
      ∙ a.1.refused)
  no_cause key value error.Memory is a = a

-- ---- the table

-- One element apart from the others, which are apart.
all_pairs_cons : {X : Type 0} (R : X → X → Type 0) (x : X) (xs : List X) → All (R x) xs → AllPairs R xs → AllPairs R (x ∷ xs)
all_pairs_cons R x xs first rest zero zero d h within = absurd (omega (arith, h))
all_pairs_cons R x xs first rest zero (suc j) d h within = first j d (omega (arith, within))
all_pairs_cons R x xs first rest (suc i) zero d h within = absurd (omega (arith, h))
all_pairs_cons R x xs first rest (suc i) (suc j) d h within = rest i j d (omega (arith, h)) (omega (arith, within))

-- What holds of one element and of the others.
all_cons : {X : Type 0} (P : X → Type 0) (x : X) (xs : List X) → P x → All P xs → All P (x ∷ xs)
all_cons P x xs here rest zero d within = here
all_cons P x xs here rest (suc k) d within = rest k d (omega (arith, within))

-- The first place of a row that is given.
first_of : (pattern : List Place) → IsOfSettings pattern → get_or pattern 0 Any ≡ Plain (codes "settings")
first_of [] is = let e : None ≡ Some (Plain (codes "settings")) = is.first in absurd (cc)
first_of (x ∷ pattern) is = let e : Some x ≡ Some (Plain (codes "settings")) = is.first in cc

-- A row that begins with another segment doesn't meet it.
other_first : (one other : Row) (segment : List ℕ) → get_or one.pattern 0 Any ≡ Plain segment → IsOfSettings other.pattern → (segment ≡ codes "settings" → ⊥)
    → Meet one.pattern other.pattern → ⊥
other_first one other segment is settings differ meet =
    differ (subst (λ y. Agree (Plain segment) y) (first_of other.pattern settings) (subst (λ x. Agree x (get_or other.pattern 0 Any)) is (meet.agree 0)))

-- None that begins with another segment meets any of them.
apart_from : (one : Row) (given : List Row) (segment : List ℕ) → get_or one.pattern 0 Any ≡ Plain segment → (segment ≡ codes "settings" → ⊥)
    → All (λ row. IsOfSettings row.pattern) given → All (λ row. Meet one.pattern row.pattern → ⊥) given
apart_from one given segment is differ settings k d within = other_first one (get_or given k d) segment is (settings k d within) differ

-- The words that rows begin with differ.
services_differ : codes "services" ≡ codes "settings" → ⊥
services_differ e = omega (arith, ap (λ t. get_or t 2 0) e)

files_differ : codes "configuration-files" ≡ codes "settings" → ⊥
files_differ e = omega (arith, ap length e)

-- The two don't meet.
abbrev Apart : Row → Row → Type 0
Apart a b = Meet a.pattern b.pattern → ⊥

-- The built-in rows.
abbrev files : Row
files = row_with (Plain (codes "services") ∷ Any ∷ Plain (codes "configuration-files") ∷ []) (word.List Identifier) (codes "list identifier")

abbrev commands : Row
commands = row_with (Plain (codes "services") ∷ Any ∷ Plain (codes "restart-commands") ∷ []) (word.List Text) (codes "list text")

abbrev path : Row
path = row_with (Plain (codes "configuration-files") ∷ Any ∷ Plain (codes "path") ∷ []) (word.One Text) (codes "text")

abbrev template : Row
template = row_with (Plain (codes "configuration-files") ∷ Any ∷ Plain (codes "template-path") ∷ []) (word.One Text) (codes "text")

-- Where no two rows that are given meet, none meet in the table.
pub whole_apart : (given : List Row) → All (λ row. IsOfSettings row.pattern) given → AreApart given → AreApart (built_in ++ given)
whole_apart given settings apart =
    all_pairs_cons Apart files (commands ∷ path ∷ template ∷ given) (all_cons (Apart files) commands (path ∷ template ∷ given)
    (λ m. omega (arith, ap length (m.agree 2)))
    (all_cons (Apart files) path (template ∷ given) (λ m. omega (arith, ap length (m.agree 0)))
    (all_cons (Apart files) template given (λ m. omega (arith, ap length (m.agree 0)))
    (apart_from files given (codes "services") refl services_differ settings))))
    (all_pairs_cons Apart commands (path ∷ template ∷ given) (all_cons (Apart commands) path (template ∷ given) (λ m. omega (arith, ap length (m.agree 0)))
    (all_cons (Apart commands) template given (λ m. omega (arith, ap length (m.agree 0)))
    (apart_from commands given (codes "services") refl services_differ settings)))
    (all_pairs_cons Apart path (template ∷ given) (all_cons (Apart path) template given (λ m. omega (arith, ap length (m.agree 2)))
    (apart_from path given (codes "configuration-files") refl files_differ settings))
    (all_pairs_cons Apart template given (apart_from template given (codes "configuration-files") refl files_differ settings) apart)))

-- ---- in another order

-- Two rows of different places don't meet.
apart_any : (rows : List Row) → AreApart rows → (i j : ℕ) (d : Row) → (i ≡ j → ⊥) → i < length rows → j < length rows
    → Apart (get_or rows i d) (get_or rows j d)
apart_any rows apart i j d differ within within' = by_order (cases_lt i j) (cases_lt j i)
  where
    by_order : (i < j) ⊎ (j ≤ i) → (j < i) ⊎ (i ≤ j) → Apart (get_or rows i d) (get_or rows j d)
    by_order (inl h) g = apart i j d h within'
    by_order (inr h) (inl g) = λ meet. apart j i d g within (meet_back (get_or rows i d).pattern (get_or rows j d).pattern meet)
    by_order (inr h) (inr g) = absurd (differ (omega (arith, h, g)))

-- Where an element was before an exchange.
record CameFrom (xs ys : List Row) (a b x : ℕ) (d : Row) : Type 0 where
  place : ℕ
  within : place < length xs
  same : get_or ys x d ≡ get_or xs place d
  moved : ((x ≡ a) × (place ≡ b)) ⊎ ((x ≡ b) × (place ≡ a)) ⊎ ((x ≡ a → ⊥) × (x ≡ b → ⊥) × (place ≡ x))

-- Each was somewhere.
came_from : (xs ys : List Row) (a b x : ℕ) (d : Row) → a < length xs → b < length xs → x < length xs → ys ≡ swap xs a b → CameFrom xs ys a b x d
came_from xs ys a b x d a_in b_in x_in swapped = at (cases_eq x a) (cases_eq x b)
  where
    moves : Swapped (λ i. get_or xs i d) (λ i. get_or ys i d) a b
    moves = swapped_from_swap xs ys a b d a_in b_in swapped

    at : (x ≡ a) ⊎ (x ≡ a → ⊥) → (x ≡ b) ⊎ (x ≡ b → ⊥) → CameFrom xs ys a b x d
    at (inl e) g = record { place = b; within = b_in; same = ap (λ n. get_or ys n d) e ∙ moves.0; moved = inl (e, refl) }
    at (inr e) (inl g) = record { place = a; within = a_in; same = ap (λ n. get_or ys n d) g ∙ moves.1; moved = inr (inl (g, refl)) }
    at (inr e) (inr g) = record { place = x; within = x_in; same = moves.2 x e g; moved = inr (inr (e, g, refl)) }

-- Two that are at different places were at different places.
came_apart : {a b x y p q : ℕ} → ((x ≡ a) × (p ≡ b)) ⊎ ((x ≡ b) × (p ≡ a)) ⊎ ((x ≡ a → ⊥) × (x ≡ b → ⊥) × (p ≡ x))
    → ((y ≡ a) × (q ≡ b)) ⊎ ((y ≡ b) × (q ≡ a)) ⊎ ((y ≡ a → ⊥) × (y ≡ b → ⊥) × (q ≡ y)) → x < y → p ≡ q → ⊥
came_apart (inl (e, f)) (inl (g, h)) before same = omega (arith, before, e, f, g, h, same)
came_apart (inl (e, f)) (inr (inl (g, h))) before same = omega (arith, before, e, f, g, h, same)
came_apart (inl (e, f)) (inr (inr (m, n, h))) before same = n (omega (arith, e, f, h, same))
came_apart (inr (inl (e, f))) (inl (g, h)) before same = omega (arith, before, e, f, g, h, same)
came_apart (inr (inl (e, f))) (inr (inl (g, h))) before same = omega (arith, before, e, f, g, h, same)
came_apart (inr (inl (e, f))) (inr (inr (m, n, h))) before same = m (omega (arith, e, f, h, same))
came_apart (inr (inr (m, n, f))) (inl (g, h)) before same = n (omega (arith, f, g, h, same))
came_apart (inr (inr (m, n, f))) (inr (inl (g, h))) before same = m (omega (arith, f, g, h, same))
came_apart (inr (inr (m, n, f))) (inr (inr (k, l, h))) before same = omega (arith, before, f, h, same)

-- After an exchange no two rows meet.
swap_apart : (xs : List Row) (a b : ℕ) → a < length xs → b < length xs → AreApart xs → AreApart (swap xs a b)
swap_apart xs a b a_in b_in apart i j d before within =
    let len = length-swap xs a b in
    let one = came_from xs (swap xs a b) a b i d a_in b_in (omega (arith, before, within, len)) refl in
    let other = came_from xs (swap xs a b) a b j d a_in b_in (omega (arith, within, len)) refl in
    rw (one.same, other.same) (apart_any xs apart one.place other.place d (came_apart one.moved other.moved before) one.within other.within)

-- Nor in any other order.
pub permuted_apart : (xs ys : List Row) → IsPermutation xs ys → AreApart xs → AreApart ys
permuted_apart xs ys moved apart = IsPermutation-keeps xs AreApart apart (λ l a b a_in b_in. swap_apart l a b a_in b_in) ys moved
