use Rattle.std.proofs.Common.{arith}
use Rattle.std.proofs.lemmas.List.{take_all}
use Rattle.std.proofs.lemmas.Simd.{map-map}
use Rattle.metadata_links.specs.Commands.{seen}
use Rattle.held_text.proofs.JsonLists.{list_written}
use Rattle.machine_answers.specs.Bodies.{command_data}
use Rattle.machine_answers.proofs.plan_body.write_commands.Goals as goal

pub returns : goal.returns
returns c =
    rw (map-map command_data seen c.args.commands.now)
    (list_written (λ c. command_data (seen c)) c.end_array.result c.args.commands.now _ _ _ _ c.in_ok-begin_array.ensures.ok
    c.in_ok-begin_array.ensures.room.0
    (rw (take_all c.loop-command.command-index c.args.commands.now (omega arith)) at c.loop-command.invariant) c.end_array.ensures)
