use Rattle.std.proofs.Common.{inr, Result, Ok, Err, refl, ◌∙◌, ap}
use Rattle.std.proofs.lemmas.Result.{err_from_is_err_and}
use Rattle.outside.proofs.Told.{moves_map, moves_stay}
use Rattle.store_open.specs.declared.forget_error.ForgetError.{ForgetError}
use Rattle.store_open.proofs.Forgets.{changed}
use Rattle.store_open.proofs.forgetting.forget_named.Goals as goal

abbrev err : ForgetError → Result Unit ForgetError
err e = Err e

pub returns-in_err-named-clause-forgets : goal.returns-in_err-named-clause-forgets
returns-in_err-named-clause-forgets g c =
    let p = err_from_is_err_and c.from_residual.result c.from_residual.ensures.1 in
    moves_stay (λ h. inr (p.1 ∙ ap err p.2, refl))

pub returns-in_err-change-clause-forgets : goal.returns-in_err-change-clause-forgets
returns-in_err-change-clause-forgets g c =
    let p = err_from_is_err_and c.from_residual-in_err-change.result c.from_residual-in_err-change.ensures.1 in
    moves_stay (λ h. inr (p.1 ∙ ap err p.2, refl))

pub make-requires-clause-rule : goal.make-requires-clause-rule
make-requires-clause-rule g c = c.in_ok-change.ensures.rule c.keep_rule.ensures

pub returns-in_err-make-clause-forgets : goal.returns-in_err-make-clause-forgets
returns-in_err-make-clause-forgets g c =
    let p = err_from_is_err_and c.from_residual-in_err-make.result c.from_residual-in_err-make.ensures.1 in
    moves_map (λ mid new lays. changed c.args.stored.now c.args.keys.now c.in_ok-named.named c.from_residual-in_err-make.result mid new
    (Err c.in_err-make.field-0.0) _ c.in_ok-named.ensures c.in_ok-change.ensures.laid lays (p.1 ∙ ap err p.2)) c.in_err-make.ensures.lays

pub returns-clause-forgets : goal.returns-clause-forgets
returns-clause-forgets g c =
    moves_map (λ mid new lays. changed c.args.stored.now c.args.keys.now c.in_ok-named.named (Ok tt) mid new
    (Ok tt) _ c.in_ok-named.ensures c.in_ok-change.ensures.laid lays refl) c.in_ok-make.ensures.lays
