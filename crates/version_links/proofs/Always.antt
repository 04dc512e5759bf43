-- Each tree's links lead somewhere.
use Rattle.std.proofs.Common.{◌≡◌, ◌≢◌, inl, inr, ◌⊎◌, ℕ, zero, suc, ◌+◌, ◌<◌, ◌≤◌, ◌^◌, List, [], ◌∷◌}
use Rattle.std.proofs.Common.{◌++◌, length, codes, Option, Some, None, refl, sym, ◌∙◌, ap, subst, arith, append_assoc, append-nil, eq-or-lt_of_le}
use Rattle.std.proofs.lemmas.Bool.{cases_eq}
use Rattle.outside.specs.Tree.{Tree}
use Rattle.version_links.specs.Names.{name_of, store, Target, directory}
use Rattle.version_links.specs.Chain.{link_at, HasStep, Leads, Outcome, nowhere, found, bad, Resolves}
use Rattle.version_links.proofs.Chains.{length-more}

-- Below a bound some number has the property, or none has.
below_cases : (P : ℕ → Type 0) → ((n : ℕ) → P n ⊎ (P n → ⊥)) → (bound : ℕ) → ((n : ℕ) × (n < bound) × P n) ⊎ ((n : ℕ) → n < bound → P n → ⊥)
below_cases P test zero = inr (λ n below has. absurd (omega arith))
below_cases P test (suc bound) = elim (test bound) [
  | inl has ↦ inl (bound, omega arith, has)
  | inr not ↦ elim (below_cases P test bound) [
    | inl some ↦ inl (some.0, omega (arith, some.1), some.2)
    | inr none ↦ inr (λ n below has. elim (eq-or-lt_of_le (let le : n ≤ bound = omega arith in le)) [
      | inl same ↦ not (subst P same has)
      | inr less ↦ none n less has
    ])
  ]
]

-- Two texts are one or two.
text_cases : (a b : List ℕ) → (a ≡ b) ⊎ (a ≢ b)
text_cases [] [] = inl refl
text_cases [] (y ∷ ys) = inr (λ same. cc)
text_cases (x ∷ xs) [] = inr (λ same. cc)
text_cases (x ∷ xs) (y ∷ ys) = elim (cases_eq x y) [
  | inr other ↦ inr (λ same. other cc)
  | inl head ↦ elim (text_cases xs ys) [
    | inl rest ↦ inl cc
    | inr other ↦ inr (λ same. other cc)
  ]
]

option_cases : (a : Option (List ℕ)) (b : List ℕ) → (a ≡ Some b) ⊎ (a ≢ Some b)
option_cases None b = inr (λ same. cc)
option_cases (Some a) b = elim (text_cases a b) [
  | inl same ↦ inl (ap Some same)
  | inr other ↦ inr (λ same. other cc)
]

module _ (tree : Tree) where
  -- A chain and what follows it.
  pub led-append : (from xs ys : List ℕ) → Leads tree from xs → Leads tree (from ++ xs) ys → Leads tree from (xs ++ ys)
  led-append from [] ys one two = subst (λ (l : List ℕ). Leads tree l ys) (append-nil from) two
  led-append from (x ∷ xs) ys one two = (
    one.0,
    led-append (from ++ x ∷ []) xs ys one.1
        (subst (λ (l : List ℕ). Leads tree l ys) (sym (append_assoc from (x ∷ []) xs)) two),
  )

  -- A link goes on by some number, or it doesn't.
  step_cases : (from : List ℕ) → ((n : ℕ) × HasStep tree from n) ⊎ ((n : ℕ) → HasStep tree from n → ⊥)
  step_cases from = elim (below_cases (λ n. link_at tree (name_of from) ≡ Some (name_of (from ++ n ∷ [])))
      (λ n. option_cases (link_at tree (name_of from)) (name_of (from ++ n ∷ []))) (2 ^ 64)) [
        | inl some ↦ inl (some.0, record { text = some.2; fits = some.1 })
        | inr none ↦ inr (λ n step. none n step.fits step.text)
      ]

  -- Where a chain goes on to: four numbers, or an end before.
  goes_on : (left : ℕ) (from : List ℕ) → length from + left ≡ 4 → Leads tree [] from → ((ns : List ℕ) × (length ns ≡ 4) × Leads tree [] ns)
      ⊎ ((ns : List ℕ) × (length ns < 4) × Leads tree [] ns × ((n : ℕ) → HasStep tree ns n → ⊥))
  goes_on zero from size led = inl (from, omega arith, led)
  goes_on (suc left) from size led = elim (step_cases from) [
    | inl step ↦ goes_on left (from ++ step.0 ∷ []) (let e = length-more from step.0 [] in omega arith) (led-append [] from (step.0 ∷ []) led (step.1, tt))
    | inr none ↦ inr (from, omega arith, led, none)
  ]

  four : (ns : List ℕ) → length ns ≡ 4 → Leads tree [] ns → (outcome : Outcome) × Resolves tree outcome
  four [] size led = absurd (omega arith)
  four (a ∷ []) size led = absurd (omega arith)
  four (a ∷ b ∷ []) size led = absurd (omega arith)
  four (a ∷ b ∷ c ∷ []) size led = absurd (omega arith)
  four (a ∷ b ∷ c ∷ id ∷ []) size led = let target : Target = record { version = record { major = a; minor = b; patch = c }; id = id } in
      (found target.version (directory target), (id, led, refl))
  four (a ∷ b ∷ c ∷ id ∷ e ∷ more) size led = absurd (omega arith)

  pub always_resolves : (outcome : Outcome) × Resolves tree outcome
  always_resolves =
      elim (link_at tree (codes "current")) as (λ o. link_at tree (codes "current") ≡ o → (outcome : Outcome) × Resolves tree outcome) [
        | None ↦ λ is. (nowhere, is)
        | Some text ↦ λ is. elim (goes_on 4 [] refl tt) [
          | inl led ↦ four led.0 led.1 led.2
          | inr end ↦ (
            bad (store (name_of end.0)),
            (
              λ none. let e : None ≡ Some text = sym none
                  ∙ is in cc,
              record { from = end.0; short = end.1; led = end.2; path_is = refl; ends = end.3 },
            ),
          )
        ]
      ] refl
