use Rattle.std.proofs.Common.{◌≡◌, ◌++◌, take}
use Rattle.std.specs.List.{flat_map}
use Rattle.store_report.specs.Lines.{ill_typed_line}
use Rattle.store_report.proofs.lines.push_all_ill_typed.Given as goal

-- The lines of the values before this one are there.
abbrev pub invariant-loop-value : goal.invariant-loop-value
invariant-loop-value l = l.text.items ≡ l.initial.text.items ++ flat_map ill_typed_line (take l.value-index l.values)
