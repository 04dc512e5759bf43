use Rattle.std.proofs.Common.{◌≡◌}
use Rattle.key_names.proofs.Dotted.{dotted_to}
use Rattle.key_names.proofs.printing.bare_printed.Given as goal

-- the zero bytes so far are dots
abbrev pub invariant-loop-b : goal.invariant-loop-b
invariant-loop-b l = l.b-items ≡ dotted_to l.b-index l.text
