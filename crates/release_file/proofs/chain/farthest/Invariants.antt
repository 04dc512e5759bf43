use Rattle.std.proofs.Common.{take}
use Rattle.std.specs.Option.{option_copied}
use Rattle.release_file.proofs.Farthest.{IsBest}
use Rattle.release_file.proofs.chain.farthest.Given as goal

-- the best of the steps so far
abbrev pub invariant-loop-t : goal.invariant-loop-t
invariant-loop-t l = IsBest (take l.t-index l.all) l.at l.target (option_copied l.best)
