use Rattle.std.proofs.Common.{◌≡◌}
use Rattle.api_core.specs.Gathered.{with_pairs}
use Rattle.api_core.proofs.named_values.put_all.Given as goal

abbrev pub invariant-loop-key : goal.invariant-loop-key
invariant-loop-key l = l.map ≡ with_pairs l.fn.map l.yielded
