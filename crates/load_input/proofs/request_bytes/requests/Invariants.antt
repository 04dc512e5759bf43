use Rattle.std.proofs.Common.{◌≡◌}
use Rattle.std.specs.List.{flat_map}
use Rattle.load_input.specs.Numbers.{below}
use Rattle.load_input.specs.Requests.{changes_of}
use Rattle.load_input.proofs.request_bytes.requests.Given as goal

-- the changes so far
abbrev pub invariant-loop-i : goal.invariant-loop-i
invariant-loop-i l = l.requests.items ≡ flat_map changes_of (below l.i)
