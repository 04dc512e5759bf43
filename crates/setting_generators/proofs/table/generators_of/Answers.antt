use Rattle.std.proofs.Common.{map}
use Rattle.setting_generators.specs.Generators.{seen}
use Rattle.setting_generators.proofs.Sorting.{sorted_rise, seen_moved}
use Rattle.setting_generators.proofs.table.generators_of.Goals as goal

pub returns-clause-ok : goal.returns-clause-ok
returns-clause-ok c = (map seen c.in_ok-listed.listed.items, c.in_ok-listed.ensures.ok, seen_moved _ _ c.in_ok-sorted.ensures.moved)

pub returns-clause-rising : goal.returns-clause-rising
returns-clause-rising c = sorted_rise _ _ c.in_ok-listed.ensures.distinct c.in_ok-sorted.ensures.moved c.in_ok-sorted.ensures.sorted
