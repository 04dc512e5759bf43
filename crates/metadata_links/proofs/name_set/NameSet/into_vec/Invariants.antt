use Rattle.std.proofs.Common.{◌≡◌, ◌++◌}
use Rattle.std.specs.FinMap.{keys}
use Rattle.metadata_links.proofs.name_set.NameSet.into_vec.Given as goal

abbrev pub invariant-loop-name : goal.invariant-loop-name
invariant-loop-name l = l.rising.items ++ l.name-iterator ≡ keys l.fn.self
