use Rattle.std.proofs.Common.{take}
use Rattle.metadata_links.specs.Commands.{seen}
use Rattle.held_text.specs.HeldRules.{WroteEach}
use Rattle.machine_answers.specs.Bodies.{command_data}
use Rattle.machine_answers.proofs.plan_body.write_commands.Given as goal

-- The commands before this one are written.
abbrev pub invariant-loop-command : goal.invariant-loop-command
invariant-loop-command l = WroteEach (λ c. command_data (seen c)) (take l.command-index l.commands) l.initial.writer l.writer
