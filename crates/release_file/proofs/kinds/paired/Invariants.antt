use Rattle.std.proofs.Common.{◌≡◌, take, map}
use Rattle.release_file.proofs.kinds.paired.Given as goal

-- the first of both lists are in pairs
abbrev pub invariant-loop-index : goal.invariant-loop-index
invariant-loop-index l = record {
  first : map (λ pair. pair.0) l.pairs.items ≡ take l.index l.old;
  second : map (λ pair. pair.1) l.pairs.items ≡ take l.index l.new;
}
