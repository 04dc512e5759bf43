use Rattle.std.proofs.Common.{sym, ◌∙◌, ap, subst}
use Rattle.outside.proofs.Told.{moves_after, moves_map, moves_then}
use Rattle.settings_machine.specs.Asked.{request_of}
use Rattle.event_lines.specs.Logs.{LogState, log_state}
use Rattle.api_core.specs.declared.serving.Core.{Core}
use Rattle.api_server.specs.Handled.{Answers}
use Rattle.api_server.proofs.Loggings.{TellsGivenUp, opening_by}
use Rattle.api_server.proofs.Refusing.{refusal_told}
use Rattle.api_server.proofs.Reopenings.{TellsOf, calm_handles, opened_handles, unopened_handles, refuses_other}
use Rattle.api_server.proofs.handling.handle.Goals as goal
use Rattle.api_server.proofs.handling.handle.Goals.{then-faulted+in_default, else-faulted}

pub returns-in-Err-clause-handles : goal.returns-in-Err-clause-handles
returns-in-Err-clause-handles g c =
    let q = request_of c.args.request.now in
    let given = c.give_up_and_tell in
    let before = log_state (g.L.Sink.told c.args.log.now) (g.L.Sink.faults c.args.log.now) in
    let now = log_state (g.L.Sink.told given.new.log) (g.L.Sink.faults given.new.log) in
    moves_map
    (λ old new still. unopened_handles c.args.core.now q (sym c.if-faulted.ensures) given.result before now
    (subst (λ (x : Core). TellsGivenUp x q given.result before now) still.same given.ensures.tells) old new c.in-Err.error c.reopen.new.self
    given.ensures.gives still) c.in-Err.ensures.reopens

pub returns-in-Err-clause-other : goal.returns-in-Err-clause-other
returns-in-Err-clause-other g c = λ is.
    moves_map
    (λ old new still. refuses_other c.args.core.now (request_of c.args.request.now) (sym c.if-faulted.ensures) c.in-Err.error
    (refusal_told c.in-Err.error c.give_up_and_tell.result c.give_up_and_tell.ensures.gives is) old new still.opens) c.in-Err.ensures.reopens

pub returns-clause-handles : goal.returns-clause-handles
returns-clause-handles g c =
    let q = request_of c.args.request.now in
    let a = c.answer_and_tell in
    let done = a.ensures in
    let before = log_state (g.L.Sink.told c.args.log.now) (g.L.Sink.faults c.args.log.now) in
    let now = log_state (g.L.Sink.told a.new.log) (g.L.Sink.faults a.new.log) in
    elim c.if-faulted.branch [
      | then-faulted+in_default w ↦
          let mid_log = log_state (g.L.Sink.told w.tell.new.log) (g.L.Sink.faults w.tell.new.log) in
          let opened = opening_by w.version.result _ w.held.result.now _ before mid_log w.version.ensures w.held.ensures
          (w.tell.ensures _ w.opened_line.ensures)
          in
          moves_then
          (λ old mid new again answers. opened_handles c.args.core.now q (sym w.if-faulted.ensures) w.reopen.new.self a.new.core a.result before mid_log now
          old mid new again (done.image ∙ ap (λ (x : Core). x.image) w.core-is) done.opened opened
          (subst (λ (x : Core). TellsOf x q a.result a.new.core mid_log now) w.core-is
          (subst (λ (s : LogState). TellsOf c.if-faulted.core q a.result a.new.core s now) (ap (λ l. log_state (g.L.Sink.told l) (g.L.Sink.faults l)) w.log-is)
          done.tells))
          (subst (λ (x : Core). Answers x q a.result a.new.core mid new) w.core-is answers))
          w.in_default.ensures.reopens (moves_after (ap g.D.Disk.told w.disk-is) done.answers)
      | else-faulted w ↦
          moves_map
          (λ old new answers. calm_handles c.args.core.now a.new.core q a.result before now old new (sym w.if-faulted.ensures)
          (done.image ∙ ap (λ (x : Core). x.image) w.core-is)
          (subst (λ (x : Core). TellsOf x q a.result a.new.core before now) w.core-is
          (subst (λ (s : LogState). TellsOf c.if-faulted.core q a.result a.new.core s now) (ap (λ l. log_state (g.L.Sink.told l) (g.L.Sink.faults l)) w.log-is)
          done.tells))
          (subst (λ (x : Core). Answers x q a.result a.new.core old new) w.core-is answers))
          (moves_after (ap g.D.Disk.told w.disk-is) done.answers)
    ]
