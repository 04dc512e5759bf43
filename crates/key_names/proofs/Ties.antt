-- What ties in the order of a small type is equal.
use Rattle.std.proofs.Common.{◌≡◌, ℕ, List, Bool, false, refl, sym, ◌∙◌, ap}
use Rattle.std.specs.Prelude.{IsTrue, ◌↔◌}
use Rattle.std.specs.Ordering.{eq_by_cmp, is_eq, is_gt, is_lt}
use Rattle.std.specs.Cmp.{IsTotalOrder, Equal-is}
use Rattle.std.specs.declared.cmp.Ordering.{Ordering}
use Rattle.std.specs.declared.cmp.Ordering.TheVariants.{Less, Equal, Greater}
use Rattle.std.specs.FinMap.{IsAntisymmetric}
use Rattle.std.proofs.lemmas.Bool.{false_from_ne_true}
use Rattle.std.proofs.lemmas.Cmp.{tied_itself}
use Rattle.std.proofs.lemmas.Map.Lookups.{exact_bytes}
use Rattle.std.proofs.lemmas.Map.Views.{tells_apart}
use Rattle.key_names.specs.Order.{bytes_cmp, key_cmp, bytes_total, key_total, bytes_cmp-IsAntisymmetric, key_cmp-IsAntisymmetric}

-- in a total order where what ties is equal, the test for a tie is the test for equality
exact : {K : Type 0} (R : K → K → Ordering) → IsTotalOrder R → IsAntisymmetric R → (a b : K) (order : Ordering) (test : Bool) → order ≡ R a b
    → test ≡ is_eq order → IsTrue test ↔ (a ≡ b)
exact R total same a b order test ordered is = (
  λ yes. same a b (sym ordered ∙ (Equal-is order).0 (sym is ∙ yes)),
  λ e. is ∙ ap is_eq (ordered ∙ ap (λ x. R a x) (sym e) ∙ tied_itself total a),
)

-- byte lists are equal exactly where they tie
pub same_bytes : (a b : List ℕ) (order : Ordering) (test : Bool) → order ≡ bytes_cmp a b → test ≡ is_eq order → IsTrue test ↔ (a ≡ b)
same_bytes = exact bytes_cmp bytes_total bytes_cmp-IsAntisymmetric

-- keys are equal exactly where they tie
pub same_key : (a b : List (List ℕ)) (order : Ordering) (test : Bool) → order ≡ key_cmp a b → test ≡ is_eq order → IsTrue test ↔ (a ≡ b)
same_key = exact key_cmp key_total key_cmp-IsAntisymmetric

-- byte lists that are two do not tie
pub none_equal : (a b : List ℕ) → (a ≡ b → ⊥) → eq_by_cmp bytes_cmp a b ≡ false
none_equal a b differ = false_from_ne_true (eq_by_cmp bytes_cmp a b) (λ tie. differ (tells_apart exact_bytes a b tie))

-- what is neither below nor above ties
pub tied : (r : Ordering) → is_lt r ≡ false → is_gt r ≡ false → r ≡ Equal
tied Less l g = absurd (cc l)
tied Equal l g = refl
tied Greater l g = absurd (cc g)
