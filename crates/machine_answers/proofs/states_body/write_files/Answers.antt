use Rattle.std.proofs.Common.{arith}
use Rattle.std.proofs.lemmas.List.{take_all}
use Rattle.machine_answers.specs.Bodies.{verified_entry}
use Rattle.machine_answers.proofs.EntriesWritten.{entries_written}
use Rattle.machine_answers.proofs.states_body.write_files.Goals as goal

pub returns : goal.returns
returns c =
    entries_written verified_entry c.end_object.result c.args.files.now _ _ _ _ c.in_ok-begin_object.ensures.ok c.in_ok-begin_object.ensures.room.0
    (rw (take_all c.loop-file.file-index c.args.files.now (omega arith)) at c.loop-file.invariant) c.end_object.ensures
