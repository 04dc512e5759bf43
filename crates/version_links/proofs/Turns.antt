-- What it does to a tree's chain of links to point one link to a data directory.
use Rattle.std.proofs.Common.{◌≡◌, ◌≢◌, inl, inr, ◌⊎◌, false, ℕ, ◌+◌, ◌<◌, ◌≤◌, ◌^◌, List, []}
use Rattle.std.proofs.Common.{◌∷◌, ◌++◌, length, codes, Some, None, refl, sym, ◌∙◌, ap, subst, arith, append_assoc, append-nil}
use Rattle.std.specs.Ordering.{eq_by_cmp}
use Rattle.outside.specs.Names.{path_cmp}
use Rattle.outside.specs.Tree.{link, link_in, Tree, set_node, AgreeOn}
use Rattle.outside.proofs.Trees.{path_cases, node_at-set_same, node_at-set_other}
use Rattle.version_links.specs.Names.{name_of, store, is_in_store}
use Rattle.version_links.specs.Chain.{link_at, HasStep, Leads, Outcome, nowhere, found, bad, Resolves}
use Rattle.version_links.proofs.Spread.{Fit, name_same}
use Rattle.version_links.proofs.Chains.{fit-append, length-more, led_fits}
use Rattle.version_links.proofs.Always.{led-append}

-- ---- trees with the same links

module _ (one other : Tree) (agree : AgreeOn is_in_store one other) where
  same_link : (name : List ℕ) → link_at one name ≡ link_at other name
  same_link name = ap link_in (agree.same (store name) refl)

  same_step : (from : List ℕ) (n : ℕ) → HasStep other from n → HasStep one from n
  same_step from n step = record { text = same_link (name_of from) ∙ step.text; fits = step.fits }

  step_back : (from : List ℕ) (n : ℕ) → HasStep one from n → HasStep other from n
  step_back from n step = record { text = sym (same_link (name_of from)) ∙ step.text; fits = step.fits }

  pub same_led : (from ns : List ℕ) → Leads other from ns → Leads one from ns
  same_led from [] led = tt
  same_led from (n ∷ ns) led = (same_step from n led.0, same_led (from ++ n ∷ []) ns led.1)

  pub same_outcome : (outcome : Outcome) → Resolves other outcome → Resolves one outcome
  same_outcome nowhere is = same_link (codes "current") ∙ is
  same_outcome (found v d) is = (is.0, same_led [] (v.major ∷ v.minor ∷ v.patch ∷ is.0 ∷ []) is.1, is.2)
  same_outcome (bad p) is = (
    λ none. is.0 (sym (same_link (codes "current")) ∙ none),
    record {
      from = is.1.from;
      short = is.1.short;
      led = same_led [] is.1.from is.1.led;
      path_is = is.1.path_is;
      ends = λ n step. is.1.ends n (step_back is.1.from n step);
    },
  )

-- ---- one link is pointed elsewhere

same_name : (one other : List ℕ) → store one ≡ store other → one ≡ other
same_name one other same = cc

-- The tree in which the link with these numbers has one more in its text.
abbrev pub pointed : Tree → List ℕ → ℕ → Tree
pointed tree at n = set_node tree (store (name_of at)) (Some (link (name_of (at ++ n ∷ []))))

module _ (tree : Tree) (at : List ℕ) (n : ℕ) (short : length at < 4) (fits : Fit at) (below : n < 2 ^ 64) where
  abbrev new : Tree
  new = pointed tree at n

  here : HasStep new at n
  here = record { text = ap link_in (node_at-set_same tree (store (name_of at)) (Some (link (name_of (at ++ n ∷ []))))); fits = below }

  elsewhere : (from : List ℕ) → eq_by_cmp path_cmp (store (name_of from)) (store (name_of at)) ≡ false
      → link_at new (name_of from) ≡ link_at tree (name_of from)
  elsewhere from other = ap link_in (node_at-set_other tree (store (name_of at)) (Some (link (name_of (at ++ n ∷ [])))) (store (name_of from)) other)

  -- It is this link, or it stays.
  link_cases : (from : List ℕ) → length from ≤ 4 → Fit from → (from ≡ at) ⊎ (link_at new (name_of from) ≡ link_at tree (name_of from))
  link_cases from few fit = elim (path_cases (store (name_of from)) (store (name_of at))) [
    | inl same ↦ inl (name_same from at few (omega arith) fit fits (same_name _ _ same))
    | inr other ↦ inr (elsewhere from other)
  ]

  -- A chain stays, or comes to that link.
  walk : (from xs : List ℕ) → length from + length xs ≤ 4 → Fit from → Leads tree from xs
      → Leads new from xs ⊎ ((ys : List ℕ) × (from ++ ys ≡ at) × Leads new from ys)
  walk from [] few fit led = inl tt
  walk from (x ∷ xs) few fit led = elim (link_cases from (omega arith) fit) [
    | inl same ↦ inr ([], append-nil from ∙ same, tt)
    | inr stays ↦ let step : HasStep new from x = record { text = stays ∙ led.0.text; fits = led.0.fits } in
        elim (walk (from ++ x ∷ []) xs (let e = length-more from x [] in omega arith) (fit-append from (x ∷ []) fit (led.0.fits, tt)) led.1) [
          | inl rest ↦ inl (step, rest)
          | inr comes ↦ inr (x ∷ comes.0, sym (append_assoc from (x ∷ []) comes.0) ∙ comes.1, (step, comes.2))
        ]
  ]

  -- What a longer name leads to stays.
  beyond : (from xs : List ℕ) → length at < length from → length from + length xs ≤ 4 → Fit from → Leads tree from xs → Leads new from xs
  beyond from [] longer few fit led = tt
  beyond from (x ∷ xs) longer few fit led = elim (link_cases from (omega arith) fit) [
    | inl same ↦ let e = ap length same in absurd (omega arith)
    | inr stays ↦ (
      record { text = stays ∙ led.0.text; fits = led.0.fits },
      beyond (from ++ x ∷ []) xs (let e = length-more from x [] in omega arith)
          (let e = length-more from x [] in omega arith) (fit-append from (x ∷ []) fit (led.0.fits, tt)) led.1,
    )
  ]

  module _ (rest : List ℕ) (few : length at + (1 + length rest) ≤ 4) (led : Leads tree (at ++ n ∷ []) rest) where
    -- The link leads on as its new text did.
    pub leads_on : Leads new at (n ∷ rest)
    leads_on = (
      here,
      beyond (at ++ n ∷ []) rest (let e = length-more at n [] in omega arith) (let e = length-more at n [] in omega arith)
          (fit-append at (n ∷ []) fits (below, tt)) led,
    )

    -- A chain that comes to the link leads on from there.
    turned : (ys : List ℕ) → ys ≡ at → Leads new [] ys → Leads new [] (at ++ n ∷ rest)
    turned ys same comes = led-append new [] at (n ∷ rest) (subst (λ (l : List ℕ). Leads new [] l) same comes) leads_on

    -- `current` is a link still.
    still_there : link_at tree (codes "current") ≢ None → link_at new (codes "current") ≢ None
    still_there some none = elim (link_cases [] (omega arith) tt) [
      | inl same ↦ let e : link_at new (name_of []) ≡ Some (name_of (at ++ n ∷ [])) =
          subst (λ (l : List ℕ). link_at new (name_of l) ≡ Some (name_of (at ++ n ∷ []))) (sym same) here.text in
          let no : None ≡ Some (name_of (at ++ n ∷ [])) = sym none ∙ e in cc
      | inr stays ↦ some (sym stays ∙ none)
    ]

    -- The links lead where they led, or where that link leads.
    pub turns : (outcome : Outcome) → Resolves tree outcome → Resolves new outcome ⊎ Leads new [] (at ++ n ∷ rest)
    turns nowhere is = elim (link_cases [] (omega arith) tt) [
      | inl same ↦ inr (turned [] same tt)
      | inr stays ↦ inl (stays ∙ is)
    ]
    turns (found v d) is = elim (walk [] (v.major ∷ v.minor ∷ v.patch ∷ is.0 ∷ []) (omega arith) tt is.1) [
      | inl stays ↦ inl (is.0, stays, is.2)
      | inr comes ↦ inr (turned comes.0 comes.1 comes.2)
    ]
    turns (bad p) is = elim (walk [] is.1.from (let s = is.1.short in omega arith) tt is.1.led) [
      | inr comes ↦ inr (turned comes.0 comes.1 comes.2)
      | inl led ↦ elim (link_cases is.1.from (let s = is.1.short in omega arith) (led_fits tree [] is.1.from is.1.led)) [
        | inl same ↦ inr (turned is.1.from same led)
        | inr stays ↦ inl (
          still_there is.0,
          record {
            from = is.1.from;
            short = is.1.short;
            led = led;
            path_is = is.1.path_is;
            ends = λ k step. is.1.ends k (record { text = sym stays ∙ step.text; fits = step.fits });
          },
        )
      ]
    ]

    -- Where the links lead as that link does, they go on to.
    pub stays_led : Leads tree [] (at ++ n ∷ rest) → Leads new [] (at ++ n ∷ rest)
    stays_led led_now = elim (walk [] (at ++ n ∷ rest) (let e = length-more at n rest in omega arith) tt led_now) [
      | inl stays ↦ stays
      | inr comes ↦ turned comes.0 comes.1 comes.2
    ]
