-- The places that a text spells are determined, one after another.
use Rattle.std.proofs.Common.{◌≡◌, ◌≢◌, ℕ, zero, suc, Bool, true, false, true≢false, nat_eq, List, [], ◌∷◌}
use Rattle.std.proofs.Common.{◌++◌, length, get_or, take, drop, refl, sym, ap, ◌∙◌, subst, arith, ◌⊎◌, inl, inr}
use Rattle.std.proofs.lemmas.Bool.{false≢true}
use Rattle.std.specs.Cmp.Lexicographic.{pointwise}
use Rattle.std.proofs.lemmas.List.{append_assoc, append-nil}
use Rattle.std.specs.List.{list_all}
use Rattle.key_names.specs.Joined.{Ends, Joins}
use Rattle.key_names.specs.Segment.{is_bare}
use Rattle.key_names.specs.Spelling.{SpellsKey}
use Rattle.key_names.proofs.OneReading.{one_key}
use Rattle.typed_settings.proofs.HeadLens.{spelling_of, same_front}
use Rattle.typed_settings.specs.Pattern.{IsPlaceText, IsHeadLen, IsPlaceOf, Remains}
use Rattle.typed_settings.specs.declared.place.Place.{Place}
use Rattle.typed_settings.specs.declared.place.Place.TheVariants.{Any, Plain}

-- A bare `*` spells no segment.
no_star : (segment : List ℕ) → SpellsKey (42 ∷ []) (segment ∷ []) → ⊥
no_star segment spelled = by_form (spelling_of (42 ∷ []) segment spelled).form
  where
    by_form : (((42 ∷ []) ≡ 34 ∷ segment ++ 34 ∷ []) ⊎ (((42 ∷ []) ≡ segment) × (list_all is_bare segment ≡ true))) → ⊥
    by_form (inl quoted) = let e : 42 ≡ 34 = ap (λ t. get_or t 0 0) quoted in absurd (omega (arith, e))
    by_form (inr (same, bare)) = false≢true (subst (λ s. list_all is_bare s ≡ true) (sym same) bare)

-- A text spells one place.
pub one_place : (text : List ℕ) (x y : Place) → IsPlaceText text x → IsPlaceText text y → x ≡ y
one_place text Any Any a b = refl
one_place text Any (Plain s) a b = absurd (no_star s (subst (λ t. SpellsKey t (s ∷ [])) a b))
one_place text (Plain s) Any a b = absurd (no_star s (subst (λ t. SpellsKey t (s ∷ [])) b a))
one_place text (Plain s) (Plain t) a b = let same : s ∷ [] ≡ t ∷ [] = one_key a b in ap Plain (cc)

-- A text that is a key, of no one segment, and no bare `*` spells no place.
pub no_place : (text : List ℕ) (key : List (List ℕ)) (star : Bool) → star ≡ pointwise nat_eq text (42 ∷ []) → star ≡ false → SpellsKey text key
    → ((place : Place) → IsPlaceOf key place → ⊥) → (place : Place) → IsPlaceText text place → ⊥
no_place text key star star_is no_star spelled none Any is = true≢false (sym (ap (λ t. pointwise nat_eq t (42 ∷ [])) is) ∙ sym star_is ∙ no_star)
no_place text key star star_is no_star spelled none (Plain s) is = none (Plain s) (record { segment = s; one = one_key spelled is; plain = refl })

-- What a text of places begins with, and what comes after it.
pub record FirstPlace (text : List ℕ) (place : Place) (places : List Place) : Type 0 where
  pub front : List ℕ
  pub back : List ℕ
  pub parts : text ≡ front ++ back
  pub is_text : IsPlaceText front place
  pub ends : Ends 46 back
  pub others : ((places ≡ []) × (back ≡ [])) ⊎ ((more : List ℕ) × (back ≡ 46 ∷ more) × Joins IsPlaceText 46 more places)

-- A text of places begins with a text of the first.
first_place : (text : List ℕ) (place : Place) (places : List Place) → Joins IsPlaceText 46 text (place ∷ places) → FirstPlace text place places
unfolding Joins
first_place text place [] is = record { front = text; back = []; parts = sym (append-nil text); is_text = is; ends = inl refl; others = inl (refl, refl) }
first_place text place (y ∷ ys) (front, rest, parts, is, more) = record {
  front = front;
  back = 46 ∷ rest;
  parts = parts;
  is_text = is;
  ends =
      inr (rest, refl);
  others = inr (rest, refl, more);
}

-- No places have no text.
some_place : (text : List ℕ) → Joins IsPlaceText 46 text [] → ⊥
unfolding Joins
some_place text is = is

-- One place is spelled by its text.
pub last_place : (text : List ℕ) (place : Place) → IsPlaceText text place → Joins IsPlaceText 46 text (place ∷ [])
unfolding Joins
last_place text place is = is

-- A place and others are spelled by their texts, with a dot between.
next_place : (front more : List ℕ) (place : Place) (places : List Place) → IsPlaceText front place → Joins IsPlaceText 46 more places
    → Joins IsPlaceText 46 (front ++ 46 ∷ more) (place ∷ places)
unfolding Joins
next_place front more place [] is none = absurd none
next_place front more place (y ∷ ys) is others = (front, more, refl, is, others)

-- The first elements of a list are its front.
take_front : {X : Type 0} (front back : List X) → take (length front) (front ++ back) ≡ front
take_front [] back = refl
take_front (x ∷ front) back = ap (λ t. x ∷ t) (take_front front back)

-- The others are its back.
drop_front : {X : Type 0} (front back : List X) → drop (length front) (front ++ back) ≡ back
drop_front [] back = refl
drop_front (x ∷ front) back = drop_front front back

-- A text spells one list of places.
pub one_joined : (text : List ℕ) (xs ys : List Place) → Joins IsPlaceText 46 text xs → Joins IsPlaceText 46 text ys → xs ≡ ys
one_joined text [] ys a b = absurd (some_place text a)
one_joined text (x ∷ xs) [] a b = absurd (some_place text b)
one_joined text (x ∷ xs) (y ∷ ys) a b = of_others (λ more others others'. one_joined more xs ys others others') first.others second.others
  where
    first : FirstPlace text x xs
    first = first_place text x xs a

    second : FirstPlace text y ys
    second = first_place text y ys b

    lengths : length first.front ≡ length second.front
    lengths = same_front text first.front first.back second.front second.back x y first.parts first.is_text first.ends second.parts second.is_text second.ends

    fronts : first.front ≡ second.front
    fronts =
        sym (take_front first.front first.back) ∙ ap (take (length first.front)) (sym first.parts ∙ second.parts)
        ∙ ap (λ n. take n (second.front ++ second.back)) lengths ∙ take_front second.front second.back

    backs : first.back ≡ second.back
    backs =
        sym (drop_front first.front first.back) ∙ ap (drop (length first.front)) (sym first.parts ∙ second.parts)
        ∙ ap (λ n. drop n (second.front ++ second.back)) lengths ∙ drop_front second.front second.back

    same : x ≡ y
    same = one_place second.front x y (subst (λ t. IsPlaceText t x) fronts first.is_text) second.is_text

    of_others : ((more : List ℕ) → Joins IsPlaceText 46 more xs → Joins IsPlaceText 46 more ys → xs ≡ ys)
        → ((xs ≡ []) × (first.back ≡ [])) ⊎ ((more : List ℕ) × (first.back ≡ 46 ∷ more) × Joins IsPlaceText 46 more xs)
        → ((ys ≡ []) × (second.back ≡ [])) ⊎ ((more : List ℕ) × (second.back ≡ 46 ∷ more) × Joins IsPlaceText 46 more ys) → x ∷ xs ≡ y ∷ ys
    of_others again (inl (none, end)) (inl (none', end')) = let rest : xs ≡ ys = none ∙ sym none' in cc same
    of_others again (inl (none, end)) (inr (more', dot', others')) =
        let e : 46 ∷ more' ≡ [] = sym dot' ∙ sym backs ∙ end in absurd (omega (arith, ap length e))
    of_others again (inr (more, dot, others)) (inl (none', end')) =
        let e : 46 ∷ more ≡ [] = sym dot ∙ backs ∙ end' in absurd (omega (arith, ap length e))
    of_others again (inr (more, dot, others)) (inr (more', dot', others')) =
        let dots : 46 ∷ more' ≡ 46 ∷ more = sym dot' ∙ sym backs ∙ dot in
        let more_is : more' ≡ more = cc in
        let rest : xs ≡ ys = again more others (subst (λ t. Joins IsPlaceText 46 t ys) more_is others') in
        cc same

module _ {text rest : List ℕ} {done : List Place} {len : ℕ} (remains : Remains text done rest) (head_len : IsHeadLen rest len) where
  -- What is at the head is the first place, with what is after it.
  same_parts : (place : Place) (places : List Place) (first : FirstPlace rest place places) → (take len rest ≡ first.front) × (drop len rest ≡ first.back)
  same_parts place places first =
      let n = head_len.exact first.front first.back place first.parts first.is_text first.ends in (
        subst (λ k. take k rest ≡ first.front) (sym n) (subst (λ t. take (length first.front) t ≡ first.front) (sym first.parts)
            (take_front first.front first.back)),
        subst (λ k. drop k rest ≡ first.back) (sym n) (subst (λ t. drop (length first.front) t ≡ first.back) (sym first.parts)
            (drop_front first.front first.back)),
      )

  -- The text is what is at the head and what is after it.
  pub refused_head : ((place : Place) → IsPlaceText (take len rest) place → ⊥) → (places : List Place) → Joins IsPlaceText 46 text places → ⊥
  refused_head none places is = of_left (remains.exact places is)
    where
      of_left : ((left : List Place) × (places ≡ done ++ left) × Joins IsPlaceText 46 rest left) → ⊥
      of_left ([], same, is) = some_place rest is
      of_left (x ∷ xs, same, is) =
          let first = first_place rest x xs is in
          none x (subst (λ t. IsPlaceText t x) (sym (same_parts x xs first).0) first.is_text)

  -- After a place the text ends or there is a dot.
  pub refused_behind : (b : ℕ) (more : List ℕ) → drop len rest ≡ b ∷ more → b ≢ 46 → (places : List Place) → Joins IsPlaceText 46 text places → ⊥
  refused_behind b more behind no_dot places is = of_left (remains.exact places is)
    where
      of_ends : (back : List ℕ) → back ≡ b ∷ more → Ends 46 back → ⊥
      of_ends back same (inl none) = let e : b ∷ more ≡ [] = sym same ∙ none in absurd (omega (arith, ap length e))
      of_ends back same (inr (tail, dot)) = let e : b ∷ more ≡ 46 ∷ tail = sym same ∙ dot in no_dot (ap (λ t. get_or t 0 0) e)

      of_left : ((left : List Place) × (places ≡ done ++ left) × Joins IsPlaceText 46 rest left) → ⊥
      of_left ([], same, is) = some_place rest is
      of_left (x ∷ xs, same, is) =
          let first = first_place rest x xs is in
          of_ends first.back (sym (same_parts x xs first).1 ∙ behind) first.ends

  -- The last place ends the text.
  pub joined_last : (place : Place) → IsPlaceText (take len rest) place → drop len rest ≡ [] → Joins IsPlaceText 46 text (done ++ place ∷ [])
  joined_last place is none = remains.sound (place ∷ []) (last_place rest place (subst (λ t. IsPlaceText t place) whole is))
    where
      split : (n : ℕ) (t : List ℕ) → drop n t ≡ [] → take n t ≡ t
      split zero [] e = refl
      split zero (x ∷ t) e = absurd (omega (arith, ap length e))
      split (suc n) [] e = refl
      split (suc n) (x ∷ t) e = ap (λ s. x ∷ s) (split n t e)

      whole : take len rest ≡ rest
      whole = split len rest none

  -- After the dot the text goes on.
  pub remains_more : (place : Place) (more : List ℕ) → IsPlaceText (take len rest) place → drop len rest ≡ 46 ∷ more → Remains text (done ++ place ∷ []) more
  remains_more place more is behind = record { sound = sound; exact = exact }
    where
      joined : (n : ℕ) (t : List ℕ) → t ≡ take n t ++ drop n t
      joined zero t = refl
      joined (suc n) [] = refl
      joined (suc n) (x ∷ t) = ap (λ s. x ∷ s) (joined n t)

      parts : rest ≡ take len rest ++ 46 ∷ more
      parts = joined len rest ∙ ap (λ t. take len rest ++ t) behind

      sound : (places : List Place) → Joins IsPlaceText 46 more places → Joins IsPlaceText 46 text ((done ++ place ∷ []) ++ places)
      sound places others =
          subst (λ ps. Joins IsPlaceText 46 text ps) (sym (append_assoc done (place ∷ []) places))
          (remains.sound (place ∷ places) (subst (λ t. Joins IsPlaceText 46 t (place ∷ places)) (sym parts)
          (next_place (take len rest) more place places is others)))

      of_others : (x : Place) (xs places : List Place) (first : FirstPlace rest x xs) → places ≡ done ++ x ∷ xs
          → ((xs ≡ []) × (first.back ≡ [])) ⊎ ((tail : List ℕ) × (first.back ≡ 46 ∷ tail) × Joins IsPlaceText 46 tail xs)
          → (left : List Place) × (places ≡ (done ++ place ∷ []) ++ left) × Joins IsPlaceText 46 more left
      of_others x xs places first same (inl (none, nothing)) =
          let e : 46 ∷ more ≡ [] = sym behind ∙ (same_parts x xs first).1 ∙ nothing in absurd (omega (arith, ap length e))
      of_others x xs places first same (inr (tail, back, others)) =
          let tails : 46 ∷ more ≡ 46 ∷ tail = sym behind ∙ (same_parts x xs first).1 ∙ back in
          let one : x ≡ place = one_place (take len rest) x place (subst (λ t. IsPlaceText t x) (sym (same_parts x xs first).0) first.is_text) is in
          let more_is : tail ≡ more = cc in (
            xs,
            same ∙ ap (λ y. done ++ y ∷ xs) one ∙ sym (append_assoc done (place ∷ []) xs),
            subst (λ t. Joins IsPlaceText 46 t xs) more_is others,
          )

      exact : (places : List Place) → Joins IsPlaceText 46 text places → (left : List Place) × (places ≡ (done ++ place ∷ []) ++ left) × Joins IsPlaceText 46
          more left
      exact places is = of_left (remains.exact places is)
        where
          of_left : ((left : List Place) × (places ≡ done ++ left) × Joins IsPlaceText 46 rest left)
              → (left : List Place) × (places ≡ (done ++ place ∷ []) ++ left) × Joins IsPlaceText 46 more left
          of_left ([], same, is) = absurd (some_place rest is)
          of_left (x ∷ xs, same, is) = let first = first_place rest x xs is in of_others x xs places first same first.others
