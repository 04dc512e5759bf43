use Rattle.std.proofs.Common.{◌≡◌, ◌++◌, take}
use Rattle.std.specs.List.{flat_map}
use Rattle.store_report.specs.Lines.{render_line}
use Rattle.store_report.proofs.lines.push_all_refused.Given as goal

-- The lines of the files before this one are there.
abbrev pub invariant-loop-file : goal.invariant-loop-file
invariant-loop-file l = l.text.items ≡ l.initial.text.items ++ flat_map render_line (take l.file-index l.files)
