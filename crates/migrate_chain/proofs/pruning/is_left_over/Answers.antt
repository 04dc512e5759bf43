use Rattle.std.proofs.Common.{arith}
use Rattle.migrate_chain.proofs.Pruned.{left_over, begins_so}
use Rattle.migrate_chain.proofs.pruning.is_left_over.Goals as goal

pub returns-in-len3-up : goal.returns-in-len3-up
returns-in-len3-up c = (
  λ told. let both = c.is_other.ensures.0 told in left_over c.args.directory.now c.args.path.now c.names.result.now c.folder-item.result c.name-item.result
      c.names.ensures (omega arith) c.folder-item.is c.name-item.is both.0 both.1,
  λ is. c.is_other.ensures.1 (begins_so c.args.directory.now c.args.path.now c.names.result.now c.folder-item.result c.name-item.result c.names.ensures
      c.folder-item.is c.name-item.is is),
)
