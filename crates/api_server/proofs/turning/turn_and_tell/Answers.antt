use Rattle.std.proofs.Common.{◌≡◌, sym, ◌∙◌, ap, subst}
use Rattle.std.proofs.lemmas.Result.{IfOk-weaker}
use Rattle.outside.proofs.Told.{moves_map}
use Rattle.settings_machine.specs.World.{Job}
use Rattle.store_image.specs.declared.image.Image.{Image}
use Rattle.event_lines.specs.Due.{due_of}
use Rattle.event_lines.specs.Lines.{due_in, turn_lines}
use Rattle.event_lines.specs.Logs.{log_state, Tells}
use Rattle.api_core.specs.Cores.{core_state}
use Rattle.api_server.proofs.Turnings.{turn_logged}
use Rattle.api_server.proofs.turning.turn_and_tell.Goals as goal

pub returns-clause-turns : goal.returns-clause-turns
returns-clause-turns g c =
    let t = c.turn.ensures in
    let job = (core_state c.args.core.now).job in
    moves_map
    (λ old new turns. turn_logged c.args.core.now c.turn.new.self _ _ _ _ _ _
    (log_state (g.L.Sink.told c.args.log.now) (g.L.Sink.faults c.args.log.now)) (log_state (g.L.Sink.told c.tell.new.log) (g.L.Sink.faults c.tell.new.log))
    old new c.requires.running t.disk_faults t.spawner_faults
    (λ I is. subst (λ (j : Job). Tells (turn_lines (due_in I job) j)
    (log_state (g.L.Sink.told c.args.log.now) (g.L.Sink.faults c.args.log.now)) (log_state (g.L.Sink.told c.tell.new.log) (g.L.Sink.faults c.tell.new.log)))
    c.job-2.ensures
    (c.tell.ensures _ (c.lines_after.ensures (due_in I job)
    (IfOk-weaker c.next_due-due.result _ (λ d. due_of d ≡ due_in I job)
    (λ d by. by I (is ∙ sym (ap (λ (i : Image). i.manifest) c.image.ensures)) ∙ ap (due_in I) c.job.ensures) c.next_due-due.ensures))))
    turns) t.turns
