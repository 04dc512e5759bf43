use Rattle.std.proofs.Common.{take}
use Rattle.held_text.specs.HeldRules.{WroteEach}
use Rattle.machine_answers.specs.Bodies.{file_data}
use Rattle.machine_answers.proofs.plan_body.write_files.Given as goal

-- The files before this one are written.
abbrev pub invariant-loop-file : goal.invariant-loop-file
invariant-loop-file l = WroteEach file_data (take l.file-index l.files) l.initial.writer l.writer
