use Rattle.std.proofs.Common.{rules}
use Rattle.json_trees.specs.EqualLaws.{pending_eq-Decides}
use Rattle.json_trees.proofs.Tested.{tested}
use Rattle.json_trees.proofs.pending.PendingPartialEq.eq.Goals as goal

pub returns-in-Put-Put-clause-exact : goal.returns-in-Put-Put-clause-exact
returns-in-Put-Put-clause-exact c = tested pending_eq-Decides c.args.self.now c.args.other.now c.eq.result (search rules)
