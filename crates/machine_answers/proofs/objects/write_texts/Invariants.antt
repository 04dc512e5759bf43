use Rattle.std.proofs.Common.{take}
use Rattle.machine_answers.specs.Bodies.{text_entry}
use Rattle.machine_answers.proofs.EntriesWritten.{WroteEntries}
use Rattle.machine_answers.proofs.objects.write_texts.Given as goal

-- The texts before this one are written.
abbrev pub invariant-loop-name : goal.invariant-loop-name
invariant-loop-name l = WroteEntries text_entry (take l.name-index l.texts) l.initial.writer l.writer
