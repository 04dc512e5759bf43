use Rattle.std.proofs.Common.{Result, sym, subst}
use Rattle.std.proofs.lemmas.Result.{err_from_is_err_and}
use Rattle.outside.specs.Told.{Moves}
use Rattle.outside.proofs.Told.{where_map}
use Rattle.store_open.specs.Beginning.{Begins}
use Rattle.store_open.specs.declared.begin_error.InitError.{InitError}
use Rattle.store_open.proofs.Begun.{exit_plain, exit_begun, plain_disk}
use Rattle.store_open.proofs.beginning.begin_fresh.Goals as goal

pub returns-in_err-names-clause-begins : goal.returns-in_err-names-clause-begins
returns-in_err-names-clause-begins g c =
    let p = err_from_is_err_and c.from_residual.result c.from_residual.ensures.1 in
    let a = g.D.Disk.told c.args.disk.now in
    let b = g.D.Disk.told c.fresh_dir.new.disk in
    subst (λ (r : Result Unit InitError). Moves a b (Begins c.args.version.now c.args.held.now r)) (sym p.1)
    (exit_plain c.args.version.now c.args.held.now a b p.0 c.fresh_dir.ensures.same (plain_disk c.in_err-names.field-0.0 p.0 p.2))

pub returns-clause-begins : goal.returns-clause-begins
returns-clause-begins g c =
    let a = g.D.Disk.told c.args.disk.now in
    let b = g.D.Disk.told c.fresh_dir.new.disk in
    let names = c.in_ok-names.names in
    exit_begun names c.args.version.now c.args.held.now c.in_ok-names.ensures.version c.put_first.result a b (g.D.Disk.told c.put_first.new.disk)
    c.fresh_dir.ensures.same
    c.requires (where_map (λ h is. is.free) c.in_ok-names.ensures.first) c.put_first.ensures.places
