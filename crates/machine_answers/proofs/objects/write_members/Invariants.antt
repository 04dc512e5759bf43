use Rattle.std.proofs.Common.{take}
use Rattle.machine_answers.specs.Bodies.{text_entry}
use Rattle.machine_answers.proofs.EntriesWritten.{WroteEntries}
use Rattle.machine_answers.proofs.objects.write_members.Given as goal

-- The members before this one are written.
abbrev pub invariant-loop-name : goal.invariant-loop-name
invariant-loop-name l = WroteEntries (λ m. text_entry (m.0.now, m.1.now)) (take l.name-index l.members) l.initial.writer l.writer
