-- Words that say changes, one after another.
use Rattle.std.proofs.Common.{◌≡◌, ℕ, suc, ◌<◌, ◌+◌, List, [], ◌∷◌, ◌++◌, length, get_or, take, take-suc, drop, map, sym, ap, subst, ◌∙◌, arith}
use Rattle.std.proofs.Math.ListN.{get_or-map}
use Rattle.std.proofs.Math.Seq.{drop-cons}
use Rattle.std.proofs.lemmas.List.{take-append-drop, length-map}
use Rattle.command_words.specs.Values.{Each}
use Rattle.command_words.proofs.Lists.{Each-more, Each-none}

module _ {X T : Type 0} (text : X → List ℕ) (spells : List ℕ → T → Type 0) (words : List X) (i : ℕ) (d : X) (within : i < length words) where
  inside : i < length (map text words)
  inside = let size = length-map words text in omega (arith, size)

  here : get_or (map text words) i (text d) ≡ text (get_or words i d)
  here = get_or-map text words i d

  -- one word and its change more
  pub each_next : (word : List ℕ) (before after : List T) (value : T) → word ≡ text (get_or words i d) → after ≡ before ++ value ∷ []
      → Each spells (take i (map text words)) before → spells word value → Each spells (take (i + 1) (map text words)) after
  each_next word before after value is pushed each one =
      let next : suc i ≡ i + 1 = omega arith in
      let taken : take i (map text words) ++ word ∷ [] ≡ take (i + 1) (map text words) =
      ap (λ (t : List ℕ). take i (map text words) ++ t ∷ []) (is ∙ sym here) ∙ sym (take-suc (map text words) i (text d) inside)
      ∙ ap (λ n. take n (map text words)) next in
      subst (λ (ts : List (List ℕ)). Each spells ts after) taken (subst (λ (vs : List T). Each spells (take i (map text words) ++ word ∷ []) vs) (sym pushed)
      (Each-more spells (take i (map text words)) before word value each one))

  -- where a word says nothing, the words say nothing
  pub each_fails : (word : List ℕ) → word ≡ text (get_or words i d) → ((v : T) → spells word v → ⊥)
      → (values : List T) → Each spells (map text words) values → ⊥
  each_fails word is none values each =
      let split : map text words ≡ take i (map text words) ++ word ∷ drop (suc i) (map text words) =
      sym (take-append-drop i (map text words)) ∙ ap (λ (ts : List (List ℕ)). take i (map text words) ++ ts)
      (drop-cons (map text words) i (text d) inside ∙ ap (λ (t : List ℕ). t ∷ drop (suc i) (map text words)) (here ∙ sym is)) in
      Each-none spells (map text words) i word (drop (suc i) (map text words)) values split none each
