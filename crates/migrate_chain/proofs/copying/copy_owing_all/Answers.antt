use Rattle.migrate_chain.specs.Store.{owing_all}
use Rattle.migrate_chain.proofs.Started.{error_is}
use Rattle.migrate_chain.proofs.Copied.{copy_none, copy_saves}
use Rattle.migrate_chain.proofs.copying.copy_owing_all.Goals as goal

pub returns-in_err-names-clause-copies : goal.returns-in_err-names-clause-copies
returns-in_err-names-clause-copies g c =
    rw (error_is c.from_residual.result _ c.from_residual.ensures.1) (copy_none c.args.version.now (owing_all c.args.held.now) c.in_err-names.field-0.0 _ _
    c.fresh_dir.ensures.same)

pub returns-clause-copies : goal.returns-clause-copies
returns-clause-copies g c =
    rw c.and.ensures
    (copy_saves c.args.version.now (owing_all c.args.held.now) c.save_owing_all.result c.in_ok-names.names c.directory.result.now _ _ _
    c.in_ok-names.ensures.version c.in_ok-names.ensures.first c.fresh_dir.ensures.same c.directory.ensures.path c.save_owing_all.ensures.saves)
