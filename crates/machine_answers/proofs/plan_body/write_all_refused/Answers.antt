use Rattle.std.proofs.Common.{arith}
use Rattle.std.proofs.lemmas.List.{take_all}
use Rattle.held_text.proofs.JsonLists.{list_written}
use Rattle.machine_answers.specs.Bodies.{refused_data}
use Rattle.machine_answers.proofs.plan_body.write_all_refused.Goals as goal

pub returns : goal.returns
returns c =
    list_written refused_data c.end_array.result c.args.refused.now _ _ _ _ c.in_ok-begin_array.ensures.ok c.in_ok-begin_array.ensures.room.0
    (rw (take_all c.loop-file.file-index c.args.refused.now (omega arith)) at c.loop-file.invariant) c.end_array.ensures
