use Rattle.std.proofs.Common.{◌≡◌, ◌++◌}
use Rattle.std.specs.List.{flat_map}
use Rattle.load_input.specs.Numbers.{below}
use Rattle.load_input.specs.Image.{type_lines, service_lines, setting_lines}
use Rattle.load_input.proofs.model_text.model_text.Given as goal

-- after the types and all services come the lines of the settings so far
abbrev pub invariant-loop-i : goal.invariant-loop-i
invariant-loop-i l =
    l.text.items ≡ type_lines ++ flat_map service_lines (below 10) ++ flat_map setting_lines (below l.i)
