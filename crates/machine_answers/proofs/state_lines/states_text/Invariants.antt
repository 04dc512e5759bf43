use Rattle.std.proofs.Common.{◌≡◌, take}
use Rattle.std.specs.List.{flat_map}
use Rattle.machine_answers.specs.StateLines.{state_line}
use Rattle.machine_answers.proofs.state_lines.states_text.Given as goal

-- The lines of the files before this one are there.
abbrev pub invariant-loop-file : goal.invariant-loop-file
invariant-loop-file l = l.text.items ≡ flat_map state_line (take l.file-index l.files)
