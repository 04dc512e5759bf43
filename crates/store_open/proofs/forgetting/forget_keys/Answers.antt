use Rattle.std.proofs.Common.{Result, Ok, Err, refl, ◌∙◌, ap}
use Rattle.std.proofs.lemmas.Result.{err_from_is_err_and}
use Rattle.outside.proofs.Told.{moves_map, moves_then}
use Rattle.store_open.specs.declared.forget_error.ForgetError.{ForgetError}
use Rattle.store_open.proofs.forgetting.forget_keys.Goals as goal

abbrev err : ForgetError → Result Unit ForgetError
err e = Err e

pub returns-in_err-stored-clause-forgets : goal.returns-in_err-stored-clause-forgets
returns-in_err-stored-clause-forgets g c =
    let p = err_from_is_err_and c.from_residual.result c.from_residual.ensures.1 in
    moves_map (λ old new reads. record { reading = Err c.in_err-stored.field-0.0; between = new; reads = reads; follows = (p.1 ∙ ap err p.2, refl) })
    c.in_err-stored.ensures.reads

pub returns-clause-forgets : goal.returns-clause-forgets
returns-clause-forgets g c =
    moves_then (λ old mid new reads follows. record { reading = Ok c.in_ok-stored.stored; between = mid; reads = reads; follows = follows })
    c.in_ok-stored.ensures.reads c.forget_in.ensures.forgets
