use Rattle.std.proofs.Common.{◌≡◌}
use Rattle.std.specs.BTreeMap.{get}
use Rattle.std.specs.Map.{update_all}
use Rattle.std.specs.Ordering.{eq_by_cmp}
use Rattle.outside.specs.Names.{Names, path_cmp}
use Rattle.disk_memory.proofs.map.copy_of_nodes.Given as goal

abbrev pub invariant-loop-path : goal.invariant-loop-path
invariant-loop-path l = (q : Names) → update_all (eq_by_cmp path_cmp) (get path_cmp l.copy) l.path-iterator q ≡ get path_cmp l.nodes q
