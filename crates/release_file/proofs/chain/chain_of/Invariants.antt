use Rattle.std.proofs.Common.{map}
use Rattle.std.specs.Prelude.{count_by}
use Rattle.release_file.specs.Order.{is_upto}
use Rattle.release_file.specs.Chain.{Leads}
use Rattle.release_file.specs.declared.transition.Transition.{Transition}
use Rattle.release_file.proofs.chain.chain_of.Given as goal

-- the chain leads to where it came
abbrev pub invariant-loop-at : goal.invariant-loop-at
invariant-loop-at l = Leads l.all l.target l.from (map (λ t. t.now) l.chain.items) l.at

abbrev pub decreases-loop-at : goal.decreases-loop-at
decreases-loop-at l = count_by (λ (t : Transition). is_upto l.at t.from) l.all
