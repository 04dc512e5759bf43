use Rattle.std.proofs.Common.{refl}
use Rattle.outside.proofs.Told.{moves_map, moves_then}
use Rattle.affected_apply.specs.declared.outcome.Turn.TheVariants as turn
use Rattle.affected_apply.specs.Jobs.{job_of}
use Rattle.affected_apply.proofs.CoreTurns.{sees_image, turn_made}
use Rattle.affected_apply.proofs.CoreEnds.{synced_end}
use Rattle.affected_apply.proofs.turning.go_on.Goals as goal

pub returns-in-Wrote-clause-event : goal.returns-in-Wrote-clause-event
returns-in-Wrote-clause-event g c = moves_map
    (λ old new makes. turn_made c.args.store.now c.args.held.now c.args.job.work c.turn.new.self.work (turn.Wrote c.in-Wrote.file) _ refl refl refl refl
    (λ same. cc) c.requires.known
    (g.S.Spawner.runs c.args.spawner.now) (g.S.Spawner.runs c.turn.new.spawner) old new makes)
    c.in-Wrote.ensures.machine

pub returns-in-Ran-clause-event : goal.returns-in-Ran-clause-event
returns-in-Ran-clause-event g c = moves_map
    (λ old new makes. turn_made c.args.store.now c.args.held.now c.args.job.work c.turn.new.self.work (turn.Ran c.in-Ran.service c.in-Ran.index) _ refl refl
    refl refl
    (λ same. cc) c.requires.known
    (g.S.Spawner.runs c.args.spawner.now) (g.S.Spawner.runs c.turn.new.spawner) old new makes)
    c.in-Ran.ensures.machine

pub returns-in-Failed-clause-event : goal.returns-in-Failed-clause-event
returns-in-Failed-clause-event g c = moves_map
    (λ old new makes. turn_made c.args.store.now c.args.held.now c.args.job.work c.turn.new.self.work (turn.Failed c.in-Failed.cause) _ refl refl refl refl
    (λ same. cc) c.requires.known
    (g.S.Spawner.runs c.args.spawner.now) (g.S.Spawner.runs c.turn.new.spawner) old new makes)
    c.in-Failed.ensures.machine

pub returns-in-Done-clause-event : goal.returns-in-Done-clause-event
returns-in-Done-clause-event g c = moves_then
    (λ old mid new syncs ends. synced_end c.args.store.now c.args.held.now c.end.new.held c.args.job.work c.turn.new.self.work (job_of c.end.result)
    (g.S.Spawner.runs c.args.spawner.now) (g.S.Spawner.runs c.turn.new.spawner) c.in-Done.ensures.work c.in-Done.ensures.runs old mid new
    (λ I of. syncs I (sees_image c.args.store.now _ refl refl refl I of)) ends)
    c.in-Done.ensures.disk c.end.ensures.event
