use Rattle.std.proofs.Common.{ap}
use Rattle.outside.proofs.Told.{moves_map, moves_stay}
use Rattle.settings_tree.specs.declared.entry.Owed.{Owed}
use Rattle.settings_tree.specs.declared.held.Held.{Held}
use Rattle.affected_apply.specs.Jobs.{job_of}
use Rattle.affected_apply.proofs.Causes.{after_fine}
use Rattle.affected_apply.proofs.CoreEnds.{stored_ends, failed_ends, memory_ends}
use Rattle.affected_apply.proofs.ending.end.Goals as goal

pub returns-in-Ok-change-clause-event : goal.returns-in-Ok-change-clause-event
returns-in-Ok-change-clause-event g c =
    let held : Held = c.args.held.now in
    moves_map
    (λ old new commits. stored_ends c.args.store.now held c.args.job.now.work c.requires.files c.requires.commands
    c.in-Ok.ending.batch c.in-Ok.ensures.dir c.in-Ok.ensures.stored old new
    (record held { owed = c.in-Ok.ending.owed }) (job_of c.in-Ok.ending.next)
    (ap (λ (o : Owed). let h : Held = record held { owed = o } in h) c.in-Ok.ensures.owed) c.in-Ok.ensures.next
    (after_fine c.args.store.now.image.now.manifest c.args.job.now.work (job_of c.in-Ok.ending.next) c.in-Ok.ensures.next) commits)
    c.in-Ok-change.ensures.commits

pub returns-in-Err-change-clause-event : goal.returns-in-Err-change-clause-event
returns-in-Err-change-clause-event g c = moves_map
    (λ old new commits. failed_ends c.args.store.now c.args.held.now c.args.job.now.work c.requires.files c.requires.commands
    c.in-Ok.ending.batch c.in-Ok.ensures.dir c.in-Ok.ensures.stored old new
    c.in-Err-change.field-0 commits)
    c.in-Err-change.ensures.commits

pub returns-in-Err-clause-event : goal.returns-in-Err-clause-event
returns-in-Err-clause-event g c = moves_stay (memory_ends c.args.store.now c.args.held.now c.args.job.now.work c.requires.files c.requires.commands)
