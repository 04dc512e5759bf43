-- Loops over lists, by what is left of them.
use Rattle.std.proofs.Common.{◌≡◌, ◌<◌, ◌≤◌, ◌+◌, ℕ, List, [], ◌∷◌, ◌++◌, length, get_or, drop}
use Rattle.std.proofs.Common.{map, filter, Option, Some, None, false, true, refl, sym, ◌∙◌, ap, append_assoc, append-nil}
use Rattle.std.specs.Prelude.{Bool}
use Rattle.std.specs.List.{filter_map, cons_option}
use Rattle.std.proofs.lemmas.List.{at_drop_more, at_drop_all}
use Rattle.std.proofs.lemmas.Bool.{cond-true, cond-false}
use Rattle.metadata_links.specs.Faults.{first_of}

module _ {X Y : Type 0} (F : List X → Y) (xs : List X) (i : ℕ) where
  -- What is left begins with the element at hand.
  pub rest_here : (x : X) (all : Y) → i < length xs → x ≡ get_or xs i x → F (drop i xs) ≡ all → F (x ∷ drop (i + 1) xs) ≡ all
  rest_here x all low is left = ap (λ y. F (y ∷ drop (i + 1) xs)) is ∙ sym (at_drop_more F xs i x low) ∙ left

  -- Where the element at hand adds nothing, the others give the same.
  pub rest_more : (x : X) (all : Y) → i < length xs → x ≡ get_or xs i x → F (drop i xs) ≡ all → F (x ∷ drop (i + 1) xs) ≡ F (drop (i + 1) xs)
      → F (drop (i + 1) xs) ≡ all
  rest_more x all low is left same = sym same ∙ rest_here x all low is left

  -- At the end nothing is left.
  pub rest_all : (all : Y) → length xs ≤ i → F (drop i xs) ≡ all → F [] ≡ all
  rest_all all past left = sym (at_drop_all F xs i past) ∙ left

-- What is gathered from one element after another.
module _ {X E : Type 0} (F : List X → List E) (next : (x : X) (xs : List X) → F (x ∷ xs) ≡ F (x ∷ []) ++ F xs) where
  pub taken_more : (left rest : List X) (x : X) (all done now : List E) → left ≡ x ∷ rest → done ++ F left ≡ all → now ≡ done ++ F (x ∷ [])
      → now ++ F rest ≡ all
  taken_more left rest x all done now is whole put =
      ap (λ l. l ++ F rest) put ∙ append_assoc done (F (x ∷ [])) (F rest) ∙ ap (λ l. done ++ l) (sym (next x rest)) ∙ ap (λ l. done ++ F l) (sym is) ∙ whole

module _ {X E : Type 0} (F : List X → List E) (none : F [] ≡ []) where
  pub taken_all : (left : List X) (all done : List E) → left ≡ [] → done ++ F left ≡ all → done ≡ all
  taken_all left all done is whole = sym (append-nil done) ∙ ap (λ l. done ++ l) (sym (ap F is ∙ none)) ∙ whole

-- A list function takes the first element first.
pub filter_map_next : {X E : Type 0} (h : X → Option E) (x : X) (xs : List X) → filter_map h (x ∷ xs) ≡ filter_map h (x ∷ []) ++ filter_map h xs
filter_map_next h x xs = by (h x) where
  by : (o : Option _) → cons_option o (filter_map h xs) ≡ cons_option o [] ++ filter_map h xs
  by None = refl
  by (Some y) = refl

pub map_next : {X E : Type 0} (h : X → E) (x : X) (xs : List X) → map h (x ∷ xs) ≡ map h (x ∷ []) ++ map h xs
map_next h x xs = refl

-- ---- the first of a list

-- The first of two lists is that of the one, where it has any.
pub first_left : {E : Type 0} (xs ys : List E) (e : E) → first_of xs ≡ Some e → first_of (xs ++ ys) ≡ Some e
first_left [] ys e is = absurd (cc is)
first_left (x ∷ xs) ys e is = is

pub first_right : {E : Type 0} (xs ys : List E) (e : E) → xs ≡ [] → first_of ys ≡ Some e → first_of (xs ++ ys) ≡ Some e
first_right xs ys e none is = ap (λ l. first_of (l ++ ys)) none ∙ is

-- Two lists without an element are one without.
pub none_both : {E : Type 0} (xs ys : List E) → xs ≡ [] → ys ≡ [] → xs ++ ys ≡ []
none_both xs ys one other = ap (λ l. l ++ ys) one ∙ other

-- What a test takes comes first, and what it doesn't take is left out.
pub filtered_first : {X E : Type 0} (f : X → E) (p : X → Bool) (x : X) (xs : List X) → p x ≡ true → first_of (map f (filter p (x ∷ xs))) ≡ Some (f x)
filtered_first f p x xs taken = ap (λ l. first_of (map f l)) (cond-true _ _ _ taken)

pub filtered_rest : {X E : Type 0} (f : X → E) (p : X → Bool) (x : X) (xs : List X) → p x ≡ false → map f (filter p (x ∷ xs)) ≡ map f (filter p xs)
filtered_rest f p x xs left = ap (map f) (cond-false _ _ _ left)
