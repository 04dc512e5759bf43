use Rattle.std.proofs.Common.{◌∙◌, sym, ap, Result, Err}
use Rattle.typed_settings.specs.declared.type_error.TypeError.{TypeError}
use Rattle.typed_settings.specs.declared.type_error.TypeError.TheVariants.{Wrong}
use Rattle.store_report.proofs.Wanting.{typed_wants, refused_wants}
use Rattle.store_report.proofs.wanted.wanted_at_row.Goals as goal

pub returns-in-Ok : goal.returns-in-Ok
returns-in-Ok c = sym (typed_wants c.args.types.now c.args.key.now c.args.value.now c.requires.one c.in-Ok.ensures.typed)

pub returns-in-Err-Wrong : goal.returns-in-Err-Wrong
returns-in-Err-Wrong c =
    let err : TypeError → Result Unit TypeError = λ e. Err e in
    let wrong : TypeError = Wrong c.in-Err-Wrong.field-0-0 c.in-Err-Wrong.wanted in
    let ill = c.check.ensures.fault wrong (c.in-Err-Wrong.is ∙ ap err c.in-Err-Wrong.field-0-is) (λ e. cc e) in
    sym (refused_wants c.args.types.now c.args.key.now c.args.value.now c.in-Err-Wrong.wanted c.requires.one ill.1)
