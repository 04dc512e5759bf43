use Rattle.std.proofs.Common.{◌≡◌, map, take}
use Rattle.event_lines.proofs.values.keys_of.Given as goal

-- The keys of the pairs before this one are there.
abbrev pub invariant-loop-pair : goal.invariant-loop-pair
invariant-loop-pair l = l.keys.items ≡ map (λ pair. pair.0) (take l.pair-index l.pairs)
