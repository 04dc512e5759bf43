use Rattle.std.proofs.Common.{rules}
use Rattle.json_trees.specs.EqualLaws.{scalar_eq-Decides}
use Rattle.json_trees.proofs.Tested.{tested}
use Rattle.json_trees.proofs.scalar.ScalarPartialEq.eq.Goals as goal

pub returns-in-Text-Text-clause-exact : goal.returns-in-Text-Text-clause-exact
returns-in-Text-Text-clause-exact c = tested scalar_eq-Decides c.args.self.now c.args.other.now c.eq.result (search rules)

pub returns-in-List-List-clause-exact : goal.returns-in-List-List-clause-exact
returns-in-List-List-clause-exact c = tested scalar_eq-Decides c.args.self.now c.args.other.now c.eq-in-List-List.result (search rules)
