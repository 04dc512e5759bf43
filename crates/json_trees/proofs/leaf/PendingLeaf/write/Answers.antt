use Rattle.std.proofs.lemmas.Result.{on_ok_weaker}
use Rattle.json_trees.proofs.Writable.{put_writable}
use Rattle.json_trees.proofs.leaf.PendingLeaf.write.Goals as goal

pub returns-in-Put-clause-writable : goal.returns-in-Put-clause-writable
returns-in-Put-clause-writable c = rw c.in-Put.is (on_ok_weaker c.write_scalar.result (put_writable c.in-Put.scalar) c.write_scalar.ensures.in_range)
