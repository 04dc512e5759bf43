use Rattle.std.proofs.Common.{◌≡◌, ◌≤◌, length, drop}
use Rattle.settings_machine.specs.Typed.{first_wanted}
use Rattle.settings_machine.specs.Refused.{seen}
use Rattle.settings_machine.proofs.refused.first_refused.Given as goal

abbrev pub invariant-loop-index : goal.invariant-loop-index
invariant-loop-index l = record { within : l.index ≤ length l.pairs; first_is : seen l.first ≡ first_wanted l.types (drop l.index l.pairs) }

abbrev pub decreases-loop-index : goal.decreases-loop-index
decreases-loop-index l = l.index
