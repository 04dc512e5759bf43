use Rattle.std.proofs.Common.{◌≡◌, ◌++◌, drop}
use Rattle.api_http.specs.Query.{texts, named, others}
use Rattle.api_http.proofs.parts.parts_of.Given as goal

-- the pairs before this one are parted
abbrev pub invariant-loop-pair_name : goal.invariant-loop-pair_name
invariant-loop-pair_name l =
    (named l.name (texts l.pairs) ≡ texts l.parts.named.items ++ named l.name (texts (drop l.pair_name-index l.pairs)))
    × (others l.name (texts l.pairs) ≡ texts l.parts.others.items ++ others l.name (texts (drop l.pair_name-index l.pairs)))
