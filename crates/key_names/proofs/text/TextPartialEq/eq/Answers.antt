use Rattle.key_names.proofs.Ties.{same_bytes}
use Rattle.key_names.proofs.text.TextPartialEq.eq.Goals as goal

pub returns-clause-exact : goal.returns-clause-exact
returns-clause-exact c = same_bytes c.args.self.now c.args.other.now c.cmp.result c.is_eq.result c.cmp.ensures c.is_eq.ensures
