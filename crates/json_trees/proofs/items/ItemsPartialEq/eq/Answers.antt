use Rattle.std.proofs.Common.{rules}
use Rattle.json_trees.specs.EqualLaws.{items_eq-Decides}
use Rattle.json_trees.proofs.Tested.{tested}
use Rattle.json_trees.proofs.items.ItemsPartialEq.eq.Goals as goal

pub returns-clause-exact : goal.returns-clause-exact
returns-clause-exact c = tested items_eq-Decides c.args.self.now c.args.other.now c.eq.result (search rules)
