use Rattle.std.proofs.Common.{◌≡◌, take}
use Rattle.api_core.specs.Gathered.{there, gathered}
use Rattle.api_core.proofs.nearest.each_once.Given as goal

abbrev pub invariant-loop-key : goal.invariant-loop-key
invariant-loop-key l = l.once ≡ gathered (λ key. there) (take l.key-index l.keys)
