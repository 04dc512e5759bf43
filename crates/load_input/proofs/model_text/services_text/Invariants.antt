use Rattle.std.proofs.Common.{◌≡◌}
use Rattle.std.specs.List.{flat_map}
use Rattle.load_input.specs.Numbers.{below}
use Rattle.load_input.specs.Image.{service_lines}
use Rattle.load_input.proofs.model_text.services_text.Given as goal

-- the lines of the services so far
abbrev pub invariant-loop-j : goal.invariant-loop-j
invariant-loop-j l = l.text.items ≡ flat_map service_lines (below l.j)
