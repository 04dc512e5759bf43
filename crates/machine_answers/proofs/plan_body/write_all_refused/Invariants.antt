use Rattle.std.proofs.Common.{take}
use Rattle.held_text.specs.HeldRules.{WroteEach}
use Rattle.machine_answers.specs.Bodies.{refused_data}
use Rattle.machine_answers.proofs.plan_body.write_all_refused.Given as goal

-- The files before this one are written.
abbrev pub invariant-loop-file : goal.invariant-loop-file
invariant-loop-file l = WroteEach refused_data (take l.file-index l.refused) l.initial.writer l.writer
