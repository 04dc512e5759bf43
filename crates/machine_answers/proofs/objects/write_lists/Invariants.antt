use Rattle.std.proofs.Common.{take}
use Rattle.machine_answers.specs.Bodies.{list_entry}
use Rattle.machine_answers.proofs.EntriesWritten.{WroteEntries}
use Rattle.machine_answers.proofs.objects.write_lists.Given as goal

-- The lists before this one are written.
abbrev pub invariant-loop-key : goal.invariant-loop-key
invariant-loop-key l = WroteEntries (λ e. list_entry (e.0, e.1.items)) (take l.key-index l.lists) l.initial.writer l.writer
