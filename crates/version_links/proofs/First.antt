-- The least id that is free.
use Rattle.std.proofs.Common.{◌≡◌, ◌↔◌, inl, inr, Bool, true, false, ℕ, ◌+◌, ◌<◌, ◌≤◌, Option, Some, None, sym, ◌∙◌, subst, arith, IsTrue, eq-or-lt_of_le}
use Rattle.outside.specs.History.{History, tree_of}
use Rattle.outside.specs.Told.{WhereTold}
use Rattle.outside.proofs.Told.{where_map, where_both}
use Rattle.version_links.specs.declared.version.Version.{Version}
use Rattle.version_links.specs.Fresh.{IsFree, IsFirstFree}

-- What holds at each number, holds at all of them.
where_each : (t : Option History) (below : ℕ) (Q : ℕ → History → Type 0) → ((k : ℕ) → k < below → WhereTold t (Q k))
    → WhereTold t (λ h. (k : ℕ) → k < below → Q k h)
where_each None below Q each = record { is = tt }
where_each (Some h) below Q each = record { is = λ k less. (each k less).is }

module _ (t t0 : Option History) (same : t ≡ t0) (version : Version) (id : ℕ) (free : Bool)
    (tells : WhereTold t (λ h. IsTrue free ↔ IsFree (tree_of h) (record { version = version; id = id })))
    (taken : (k : ℕ) → k < id → WhereTold t0 (λ h. IsFree (tree_of h) (record { version = version; id = k }) → ⊥)) where
  tells_first : WhereTold t0 (λ h. IsTrue free ↔ IsFree (tree_of h) (record { version = version; id = id }))
  tells_first = subst (λ s. WhereTold s (λ h. IsTrue free ↔ IsFree (tree_of h) (record { version = version; id = id }))) same tells

  -- A free one is the first.
  pub first_free : free ≡ true → WhereTold t0 (λ h. IsFirstFree (tree_of h) (record { version = version; id = id }))
  first_free is_free = where_map (λ h both. record { free = both.0.0 is_free; least = both.1 })
      (where_both tells_first (where_each t0 id (λ k h. IsFree (tree_of h) (record { version = version; id = k }) → ⊥) taken))

  -- One that isn't, is taken too.
  pub taken_more : free ≡ false → (k : ℕ) → k < id + 1 → WhereTold t0 (λ h. IsFree (tree_of h) (record { version = version; id = k }) → ⊥)
  taken_more is_taken k less = elim (eq-or-lt_of_le (let le : k ≤ id = omega arith in le)) [
    | inr before ↦ taken k before
    | inl here ↦ where_map (λ h told has. let e : IsTrue free = told.1 (subst (λ i. IsFree (tree_of h) (record { version = version; id = i })) here has) in
        let f : false ≡ true = sym is_taken ∙ e in cc) tells_first
  ]
