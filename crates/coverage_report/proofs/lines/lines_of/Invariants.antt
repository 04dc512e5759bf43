use Rattle.std.proofs.Common.{◌≡◌, take}
use Rattle.std.specs.List.{flat_map}
use Rattle.coverage_report.specs.Lines.{line}
use Rattle.coverage_report.proofs.lines.lines_of.Given as goal

abbrev pub invariant-loop-check : goal.invariant-loop-check
invariant-loop-check l = l.text.items ≡ flat_map line (take l.check-index l.checks)
