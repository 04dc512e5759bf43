use Rattle.std.proofs.Common.{arith}
use Rattle.std.proofs.lemmas.List.{take_all}
use Rattle.std.proofs.lemmas.Simd.{map-map}
use Rattle.machine_answers.specs.Bodies.{list_entry}
use Rattle.machine_answers.proofs.EntriesWritten.{entries_written}
use Rattle.machine_answers.proofs.objects.write_lists.Goals as goal

pub returns : goal.returns
returns c =
    rw (map-map list_entry (λ e. (e.0, e.1.items)) c.args.lists.now)
    (entries_written (λ e. list_entry (e.0, e.1.items)) c.end_object.result c.args.lists.now _ _ _ _ c.in_ok-begin_object.ensures.ok
    c.in_ok-begin_object.ensures.room.0
    (rw (take_all c.loop-key.key-index c.args.lists.now (omega arith)) at c.loop-key.invariant) c.end_object.ensures)
