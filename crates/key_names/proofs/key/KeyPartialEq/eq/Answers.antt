use Rattle.key_names.proofs.Ties.{same_key}
use Rattle.key_names.proofs.key.KeyPartialEq.eq.Goals as goal

pub returns-clause-exact : goal.returns-clause-exact
returns-clause-exact c = same_key c.args.self.now c.args.other.now c.cmp.result c.is_eq.result c.cmp.ensures c.is_eq.ensures
