use Rattle.std.proofs.Common.{◌≡◌, map, take}
use Rattle.release_file.specs.Chain.{step_of}
use Rattle.release_file.proofs.planning.plan.Given as goal

-- the steps so far
abbrev pub invariant-loop-transition : goal.invariant-loop-transition
invariant-loop-transition l = l.steps.items ≡ map (step_of l.back) (map (λ t. t.now) (take l.transition-index l.transition-items))
