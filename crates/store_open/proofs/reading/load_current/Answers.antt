use Rattle.std.proofs.Common.{Result, sym, subst}
use Rattle.std.specs.Prelude.{IfErr}
use Rattle.std.proofs.lemmas.Result.{err_from_is_err_and}
use Rattle.outside.specs.Told.{WhereTold}
use Rattle.outside.proofs.Results.{handed_on}
use Rattle.settings_tree.specs.declared.held.Held.{Held}
use Rattle.store_open.specs.Phases.{AtFault}
use Rattle.store_open.specs.declared.open_error.OpenError.{OpenError}
use Rattle.store_open.proofs.ReadStores.{at_load, at_format}
use Rattle.store_open.proofs.reading.load_current.Goals as goal

pub returns-in_err-loaded-clause-refused : goal.returns-in_err-loaded-clause-refused
returns-in_err-loaded-clause-refused g c =
    let p = err_from_is_err_and c.from_residual.result c.from_residual.ensures.1 in
    let a = g.D.Disk.told c.args.disk.now in
    subst (λ (r : Result Held OpenError). IfErr r (λ e. WhereTold a (AtFault c.args.dir.now e))) (sym p.1)
    (at_load c.args.dir.now a c.in_err-loaded.field-0.0 p.0 p.2 c.in_err-loaded.ensures.damaged)

pub returns-in_err-check_format-clause-refused : goal.returns-in_err-check_format-clause-refused
returns-in_err-check_format-clause-refused g c =
    let a = g.D.Disk.told c.args.disk.now in
    let e = c.in_err-check_format.field-0.0 in
    handed_on c.from_residual-in_err-check_format.result e (λ e. WhereTold a (AtFault c.args.dir.now e)) c.from_residual-in_err-check_format.ensures.1
    (at_format c.args.dir.now a c.in_ok-loaded.loaded.held c.in_ok-loaded.loaded.format e c.in_ok-loaded.ensures.ok c.in_err-check_format.ensures.refused)
