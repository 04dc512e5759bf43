use Rattle.std.proofs.Common.{rules}
use Rattle.json_trees.specs.EqualLaws.{item_eq-Decides}
use Rattle.json_trees.proofs.Tested.{tested}
use Rattle.json_trees.proofs.item.ItemPartialEq.eq.Goals as goal

pub returns-in-Text-Text-clause-exact : goal.returns-in-Text-Text-clause-exact
returns-in-Text-Text-clause-exact c = tested item_eq-Decides c.args.self.now c.args.other.now c.eq.result (search rules)
