use Rattle.std.proofs.Common.{arith}
use Rattle.std.proofs.lemmas.List.{take_all}
use Rattle.machine_answers.specs.Bodies.{text_entry}
use Rattle.machine_answers.proofs.EntriesWritten.{entries_written}
use Rattle.machine_answers.proofs.objects.write_members.Goals as goal

pub returns : goal.returns
returns c =
    entries_written (λ m. text_entry (m.0.now, m.1.now)) c.end_object.result c.args.members.now _ _ _ _ c.in_ok-begin_object.ensures.ok
    c.in_ok-begin_object.ensures.room.0
    (rw (take_all c.loop-name.name-index c.args.members.now (omega arith)) at c.loop-name.invariant) c.end_object.ensures
