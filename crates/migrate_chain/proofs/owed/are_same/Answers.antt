use Rattle.std.proofs.lemmas.Slice.Eq.{slice_eq-Decides}
use Rattle.migrate_chain.proofs.SameKeys.{keys_tie}
use Rattle.migrate_chain.proofs.owed.are_same.Goals as goal

pub returns : goal.returns
returns c = slice_eq-Decides keys_tie c.args.keys.now c.args.others.now c.eq.result c.eq.ensures
