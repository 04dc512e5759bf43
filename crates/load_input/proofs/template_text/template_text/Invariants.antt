use Rattle.std.proofs.Common.{◌≡◌}
use Rattle.std.specs.List.{flat_map}
use Rattle.load_input.specs.Numbers.{below}
use Rattle.load_input.specs.Image.{line_in}
use Rattle.load_input.proofs.template_text.template_text.Given as goal

-- the lines of the settings so far that affect the service
abbrev pub invariant-loop-i : goal.invariant-loop-i
invariant-loop-i l = l.text.items ≡ flat_map (line_in l.service) (below l.i)
