use Rattle.std.proofs.lemmas.Result.{on_ok_weaker}
use Rattle.json_trees.proofs.Writable.{scalar_writable}
use Rattle.json_trees.proofs.leaf.ScalarLeaf.write.Goals as goal

pub returns-clause-writable : goal.returns-clause-writable
returns-clause-writable c = on_ok_weaker c.write_scalar.result (scalar_writable c.args.self.now) c.write_scalar.ensures.in_range
