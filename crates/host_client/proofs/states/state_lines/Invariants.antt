use Rattle.std.proofs.Common.{◌≡◌, ◌++◌}
use Rattle.serde_json.specs.View.{members_view}
use Rattle.host_client.specs.Lines.{state_lines}
use Rattle.host_client.proofs.states.state_lines.Given as goal

-- the files that are left are to be added to the lines so far
abbrev pub invariant-loop-file : goal.invariant-loop-file
invariant-loop-file l = l.lines.items ++ state_lines (members_view l.file-iterator) ≡ state_lines (members_view l.files.entries)
