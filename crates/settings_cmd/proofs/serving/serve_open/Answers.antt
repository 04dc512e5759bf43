use Rattle.outside.proofs.Told.{moves_map}
use Rattle.event_lines.specs.Logs.{log_state}
use Rattle.api_server.proofs.Loggings.{opening_by}
use Rattle.settings_cmd.proofs.Servings.{loudly}
use Rattle.settings_cmd.proofs.serving.serve_open.Goals as goal

pub returns-clause-serves : goal.returns-clause-serves
returns-clause-serves g c =
    let before = log_state (g.L.Sink.told c.args.log.now) (g.L.Sink.faults c.args.log.now) in
    let opened = log_state (g.L.Sink.told c.tell.new.log) (g.L.Sink.faults c.tell.new.log) in
    moves_map
    (λ old new serves. loudly c.args.boot c.args.pace c.args.quiet c.serve-2.result c.args.core.now c.serve-2.new.core _ _ _ _ _ _ before opened _ old new
    c.if-quiet.false
    (opening_by c.version.result _ c.held.result.now _ before opened c.version.ensures c.held.ensures (c.tell.ensures _ c.opened_line-line.ensures)) serves)
    c.serve-2.ensures.serves
