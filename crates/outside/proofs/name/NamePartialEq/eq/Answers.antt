use Rattle.outside.proofs.Ties.{exact_name}
use Rattle.outside.proofs.name.NamePartialEq.eq.Goals as goal

pub returns-clause-exact : goal.returns-clause-exact
returns-clause-exact c = exact_name c.args.self.now c.args.other.now c.cmp.result c.is_eq.result c.cmp.ensures c.is_eq.ensures
