use Rattle.outside.proofs.Told.{moves_map}
use Rattle.affected_apply.specs.Sees.{HasRow}
use Rattle.affected_apply.proofs.MachineTurns.{turn_made}
use Rattle.affected_apply.proofs.JobTurns.{known_left}
use Rattle.affected_apply.proofs.job.Job.turn.Goals as goal

pub returns-clause-machine : goal.returns-clause-machine
returns-clause-machine g c = moves_map
    (λ old new wrote I W sees job lives. turn_made I c.args.view.now.live.now W c.args.self.now.work job lives
    (g.S.Spawner.runs c.args.spawner.now) (g.S.Spawner.runs c.step.new.spawner) old new c.step.result c.step.new.self.work c.step.ensures.work
    (c.step.ensures.image I sees) (wrote I sees) c.step.ensures.runs)
    c.step.ensures.disk

pub returns-clause-known : goal.returns-clause-known
returns-clause-known g c = known_left (HasRow c.args.view.now.manifest.now) c.args.self.now.work c.step.result c.step.new.self.work c.step.ensures.work
    c.requires
