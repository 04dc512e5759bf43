use Rattle.std.proofs.Common.{take}
use Rattle.machine_answers.specs.Bodies.{verified_entry}
use Rattle.machine_answers.proofs.EntriesWritten.{WroteEntries}
use Rattle.machine_answers.proofs.states_body.write_files.Given as goal

-- The files before this one are written.
abbrev pub invariant-loop-file : goal.invariant-loop-file
invariant-loop-file l = WroteEntries verified_entry (take l.file-index l.files) l.initial.writer l.writer
