use Rattle.std.proofs.Common.{◌≡◌, drop, fold}
use Rattle.metadata_links.specs.Rising.{with_member}
use Rattle.metadata_links.proofs.name_set.NameSet.add_all.Given as goal

abbrev pub invariant-loop-name : goal.invariant-loop-name
invariant-loop-name l = fold with_member l.self (drop l.name-index l.names) ≡ fold with_member l.initial.self l.names
