use Rattle.std.proofs.Common.{◌≡◌, ◌++◌, filter}
use Rattle.std.specs.BTreeMap.{keys}
use Rattle.outside.specs.Names.{is_below}
use Rattle.disk_memory.proofs.map.paths_below.Given as goal

abbrev pub invariant-loop-other : goal.invariant-loop-other
invariant-loop-other l = l.found.items ++ filter (is_below l.path) l.other-iterator ≡ filter (is_below l.path) (keys l.nodes)
