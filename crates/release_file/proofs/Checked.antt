-- What holds, or is refused, of an entry at a text is so at the name that the table has.
use Rattle.std.proofs.Common.{◌≡◌, ℕ, List, [], ◌∷◌, subst}
use Rattle.toml.specs.Data.{Data}
use Rattle.release_file.specs.Checks.{Check}
use Rattle.release_file.specs.Refused.{Passes, Refuses}
use Rattle.toml_values.specs.declared.located_fault.LocatedFault.{LocatedFault}
use Rattle.release_file.specs.declared.release_error.ReleaseKind.{ReleaseKind}

module _ (check : List ℕ × Data → Check) (name bytes : List ℕ) (d : Data) (same : bytes ≡ name) where
  pub passes_at : Passes (check (bytes, d) ∷ []) → Passes (check (name, d) ∷ [])
  passes_at holds = subst (λ (n : List ℕ). Passes (check (n, d) ∷ [])) same holds

  pub refuses_at : (e : LocatedFault ReleaseKind) → Refuses (check (bytes, d) ∷ []) e → Refuses (check (name, d) ∷ []) e
  refuses_at e refused = subst (λ (n : List ℕ). Refuses (check (n, d) ∷ []) e) same refused
