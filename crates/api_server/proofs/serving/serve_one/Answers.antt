use Rattle.std.proofs.Common.{sym, Option, List, subst}
use Rattle.outside.specs.Exchange.{Exchange}
use Rattle.outside.proofs.Told.{moves_then}
use Rattle.event_lines.specs.Logs.{log_state}
use Rattle.api_server.specs.Answered.{ServesOne}
use Rattle.api_server.specs.Causes.{fault_counts}
use Rattle.api_server.proofs.Followed.{one_connection}
use Rattle.api_server.proofs.serving.serve_one.Goals as goal

pub returns-clause-serves : goal.returns-clause-serves
returns-clause-serves g c = moves_then
    (λ old between new answers turns.
    subst (λ (told : Option (List Exchange)). ServesOne c.args.slice c.args.core.now c.turns.new.core
    (fault_counts (g.D.Disk.faults c.args.disk.now) (g.S.Spawner.faults c.args.spawner.now))
    (fault_counts (g.D.Disk.faults c.turns.new.disk) (g.S.Spawner.faults c.turns.new.spawner)) (g.N.Door.told c.args.door.now) told
    (g.S.Spawner.runs c.args.spawner.now) (g.S.Spawner.runs c.turns.new.spawner) (log_state (g.L.Sink.told c.args.log.now) (g.L.Sink.faults c.args.log.now))
    (log_state (g.L.Sink.told c.turns.new.log) (g.L.Sink.faults c.turns.new.log)) old new)
    (sym c.finish.ensures.same) (one_connection _ _ _ _ _ _ _ _ _ _ _ _ _ _ _ _ old between new answers c.answer_one.ensures.disk_faults
    c.turns.ensures.disk_faults turns))
    c.answer_one.ensures.answers c.turns.ensures.turns
