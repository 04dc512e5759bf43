use Rattle.std.proofs.Common.{false, [], ◌++◌, subst}
use Rattle.settings_machine.specs.Asked.{request_of}
use Rattle.settings_machine.specs.World.{Job}
use Rattle.event_lines.specs.Lines.{request_line, job_lines}
use Rattle.event_lines.specs.Logs.{log_state, Tells}
use Rattle.api_server.specs.Handled.{sent_of}
use Rattle.api_server.proofs.handling.give_up_and_tell.Goals as goal

pub returns-clause-tells : goal.returns-clause-tells
returns-clause-tells g c =
    let q = request_of c.args.request.now in
    subst (λ (j : Job). Tells (request_line q [] (sent_of c.given_up-handled.result).status ++ job_lines false j)
    (log_state (g.L.Sink.told c.args.log.now) (g.L.Sink.faults c.args.log.now))
    (log_state (g.L.Sink.told c.tell.new.log) (g.L.Sink.faults c.tell.new.log))) c.job.ensures
    (c.tell.ensures _ (c.lines_of-lines.ensures [] c.new.ensures))
