use Rattle.std.proofs.Common.{inl, inr, Option, Result, Err, refl, sym, ◌∙◌, ap, subst}
use Rattle.std.specs.Option.{option_copied}
use Rattle.std.proofs.lemmas.Result.{err_from_is_err_and}
use Rattle.outside.specs.Told.{Moves}
use Rattle.outside.proofs.Told.{moves_stay}
use Rattle.settings_machine.specs.World.{Key}
use Rattle.store_open.specs.Forgetting.{ForgetsIn}
use Rattle.store_open.specs.declared.forget_error.ForgetError.{ForgetError}
use Rattle.store_open.specs.declared.forget_error.ForgetError.TheVariants.{NotHeld}
use Rattle.store_open.proofs.forgetting.forget_in.Goals as goal

abbrev err : ForgetError → Result Unit ForgetError
err e = Err e

pub returns-in_err-copy-in-Some-clause-forgets : goal.returns-in_err-copy-in-Some-clause-forgets
returns-in_err-copy-in-Some-clause-forgets g c =
    let p = err_from_is_err_and c.from_residual.result c.from_residual.ensures.1 in
    let a = g.D.Disk.told c.args.disk.now in
    subst (λ (o : Option Key). Moves a a (ForgetsIn c.args.stored.now c.args.keys.now o c.from_residual.result))
    (sym (ap option_copied c.in-Some.is) ∙ c.first_unheld.ensures) (moves_stay (λ h. (inr (p.1 ∙ ap err p.2), refl)))

pub returns-in_ok-copy-in-Some-clause-forgets : goal.returns-in_ok-copy-in-Some-clause-forgets
returns-in_ok-copy-in-Some-clause-forgets g c =
    let a = g.D.Disk.told c.args.disk.now in
    subst (λ (o : Option Key). Moves a a (ForgetsIn c.args.stored.now c.args.keys.now o (Err (NotHeld c.in_ok-copy-in-Some.field-0))))
    (sym (ap option_copied c.in-Some.is) ∙ c.first_unheld.ensures)
    (moves_stay (λ h. (inl (ap (λ (k : Key). err (NotHeld k)) c.in_ok-copy-in-Some.ensures), refl)))

pub returns-in-None-clause-forgets : goal.returns-in-None-clause-forgets
returns-in-None-clause-forgets g c =
    subst (λ (o : Option Key). Moves (g.D.Disk.told c.args.disk.now) (g.D.Disk.told c.forget_named.new.disk)
    (ForgetsIn c.args.stored.now c.args.keys.now o c.forget_named.result))
    (sym (ap option_copied c.in-None.is) ∙ c.first_unheld.ensures) c.forget_named.ensures.forgets
