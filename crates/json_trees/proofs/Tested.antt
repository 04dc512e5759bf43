-- What a test for equality says.
use Rattle.std.proofs.Common.{◌≡◌, Bool, sym, ◌∙◌}
use Rattle.std.specs.Prelude.{IsTrue, ◌↔◌}
use Rattle.std.specs.Bool.{Decides}

-- a result that is what a deciding test gives is true exactly of equal values
pub tested : {A : Type 0} {E : A → A → Bool} → ((a b : A) → Decides (E a b) (a ≡ b)) → (a b : A) (r : Bool) → r ≡ E a b → IsTrue r ↔ (a ≡ b)
tested decides a b r is = (λ yes. (decides a b).0 (sym is ∙ yes), λ same. is ∙ (decides a b).1 same)
