use Rattle.std.proofs.Common.{Result, Ok, Err, sym, subst}
use Rattle.std.proofs.lemmas.Result.{err_from_is_err_and}
use Rattle.outside.specs.Names.{Names}
use Rattle.outside.specs.Told.{Moves}
use Rattle.outside.specs.declared.disk_error.DiskErr.{DiskErr}
use Rattle.outside.specs.declared.disk_error.DiskErr.TheVariants as device
use Rattle.outside.proofs.Told.{moves_map, moves_stay}
use Rattle.settings_tree.specs.Laid.{laid}
use Rattle.store_open.specs.Phases.{Lays}
use Rattle.store_open.proofs.Steps.{lays_none, lays_made, lays_failed}
use Rattle.store_open.proofs.step.make.Goals as goal

pub returns-in_err-batch-clause-lays : goal.returns-in_err-batch-clause-lays
returns-in_err-batch-clause-lays g c =
    let p = err_from_is_err_and c.from_residual.result c.from_residual.ensures.1 in
    let held = c.args.held.now in
    let after = laid held c.args.change in
    let t = g.D.Disk.told c.args.disk.now in
    subst (λ (r : Result Unit DiskErr). Moves t t (Lays c.args.dir.now held after r)) (sym p.1) (moves_stay (λ h. lays_none c.args.dir.now held after h p.0))

pub returns-in-Ok-clause-lays : goal.returns-in-Ok-clause-lays
returns-in-Ok-clause-lays g c =
    let held = c.args.held.now in
    let batch = c.in_ok-batch.batch in
    moves_map (λ old new commits. subst (λ (d : Names). Lays d held (laid held c.args.change) (Ok tt) old new) c.in_ok-batch.ensures.dir
    (lays_made batch c.args.change c.in_ok-batch.ensures.follows held c.requires.rule c.requires.weak c.requires.told old new _ commits))
    c.in-Ok.ensures.commits

pub returns-clause-lays : goal.returns-clause-lays
returns-clause-lays g c =
    let held = c.args.held.now in
    let batch = c.in_ok-batch.batch in
    moves_map (λ old new commits. subst (λ (d : Names). Lays d held (laid held c.args.change) (Err device.Failed) old new) c.in_ok-batch.ensures.dir
    (lays_failed batch c.args.change c.in_ok-batch.ensures.follows held c.requires.rule c.requires.weak c.requires.told old new _ commits))
    c.in-Err.ensures.commits
