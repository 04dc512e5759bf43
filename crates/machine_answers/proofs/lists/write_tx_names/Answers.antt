use Rattle.std.proofs.Common.{arith}
use Rattle.std.proofs.lemmas.List.{take_all}
use Rattle.serde_json.specs.Data.{string}
use Rattle.held_text.proofs.JsonLists.{list_written}
use Rattle.machine_answers.proofs.lists.write_tx_names.Goals as goal

pub returns : goal.returns
returns c =
    list_written string c.end_array.result c.args.names.now _ _ _ _ c.in_ok-begin_array.ensures.ok c.in_ok-begin_array.ensures.room.0
    (rw (take_all c.loop-name.name-index c.args.names.now (omega arith)) at c.loop-name.invariant) c.end_array.ensures
