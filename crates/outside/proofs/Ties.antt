-- What ties in the order of names or of paths is equal.
use Rattle.std.proofs.Common.{◌≡◌, ℕ, List, Bool, sym, ◌∙◌, ap}
use Rattle.std.specs.Prelude.{IsTrue, ◌↔◌}
use Rattle.std.specs.Ordering.{is_eq}
use Rattle.std.specs.Cmp.{IsTotalOrder, Equal-is}
use Rattle.std.specs.declared.cmp.Ordering.{Ordering}
use Rattle.std.specs.FinMap.{IsAntisymmetric, nat_cmp-IsAntisymmetric, slice_cmp-IsAntisymmetric}
use Rattle.std.proofs.lemmas.Cmp.{tied_itself}
use Rattle.outside.specs.Names.{Names, name_cmp, path_cmp}
use Rattle.outside.specs.Order.{name_total, path_total}
use Rattle.outside.proofs.Trees.{path_same}

-- in a total order where what ties is equal, the test for a tie is the test for equality
exact : {K : Type 0} (R : K → K → Ordering) → IsTotalOrder R → IsAntisymmetric R → (a b : K) (order : Ordering) (test : Bool) → order ≡ R a b
    → test ≡ is_eq order → IsTrue test ↔ (a ≡ b)
exact R total same a b order test ordered is = (
  λ yes. same a b (sym ordered ∙ (Equal-is order).0 (sym is ∙ yes)),
  λ e. is ∙ ap is_eq (ordered ∙ ap (λ x. R a x) (sym e) ∙ tied_itself total a),
)

-- names are equal exactly where they tie
pub exact_name : (a b : List ℕ) (order : Ordering) (test : Bool) → order ≡ name_cmp a b → test ≡ is_eq order → IsTrue test ↔ (a ≡ b)
exact_name = exact name_cmp name_total (slice_cmp-IsAntisymmetric nat_cmp-IsAntisymmetric)

-- paths are equal exactly where they tie
pub exact_path : (a b : Names) (order : Ordering) (test : Bool) → order ≡ path_cmp a b → test ≡ is_eq order → IsTrue test ↔ (a ≡ b)
exact_path = exact path_cmp path_total path_same
