use Rattle.std.proofs.Common.{◌∙◌, ap}
use Rattle.settings_machine.specs.Asked.{request_of}
use Rattle.settings_machine.specs.World.{is_running}
use Rattle.event_lines.specs.Lines.{changes}
use Rattle.api_core.specs.Cores.{core_state}
use Rattle.api_server.specs.Handled.{sent_of}
use Rattle.api_server.proofs.Loggings.{told_by}
use Rattle.api_server.proofs.handling.answer_and_tell.Goals as goal

pub returns-clause-tells : goal.returns-clause-tells
returns-clause-tells g c =
    let q = request_of c.args.request.now in
    let lines = c.lines_of-lines.ensures (changes c.held.result.now q) c.changed_by-changed.ensures in
    told_by q c.held.result.now (core_state c.args.core.now).held (sent_of c.answer-handled.result).status c.is_running-was_running.result _ _ _ _ _
    c.held.ensures (c.is_running-was_running.ensures ∙ ap is_running c.job.ensures) c.job-2.ensures (c.tell.ensures _ lines)
