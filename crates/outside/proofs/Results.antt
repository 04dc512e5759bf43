-- Errors that a `?` hands on.
use Rattle.std.proofs.Common.{◌≡◌, Result, Ok, Err, sym, ◌∙◌, ap, subst}
use Rattle.std.specs.Prelude.{IfErr, IsErrAnd, IsErrOf}

-- What holds of the error that is handed on holds of the answer.
pub handed_on : {T E : Type 0} (r : Result T E) (e : E) (P : E → Type 0) → IsErrAnd r (λ x. x ≡ e) → P e → IfErr r P
handed_on (Ok v) e P is p = tt
handed_on (Err x) e P is p = subst P (sym is) p

-- The error that is handed on is that of the call.
pub handed_err : {S T E : Type 0} (r : Result T E) (x y z : E) → r ≡ Err x → x ≡ y → r ≡ Err z → IsErrOf {T = S} (Err y) z
handed_err {S = S} {T = T} {E = E} r x y z is same err = let e : ◌≡◌ {A = Result T E} (Err x) (Err z) = sym is
    ∙ err in let f : x ≡ z = cc in ap (λ w. let v : Result S E = Err w in v) (sym same ∙ f)
