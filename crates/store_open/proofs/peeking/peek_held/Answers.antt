use Rattle.outside.specs.History.{tree_of}
use Rattle.disk_memory.specs.Disk.{history_of}
use Rattle.store_open.proofs.Peeked.{held_there, told_there}
use Rattle.store_open.proofs.peeking.peek_held.Goals as goal

pub returns-clause-holds : goal.returns-clause-holds
returns-clause-holds g c =
    held_there c.args.dir.now (tree_of (history_of c.in_ok-copy.copy)) (g.D.Disk.told c.args.disk.now) c.in_ok-copy.ensures.copies c.peek_copy.result
    c.peek_copy.ensures.holds

pub returns-clause-refused : goal.returns-clause-refused
returns-clause-refused g c =
    told_there c.args.dir.now (tree_of (history_of c.in_ok-copy.copy)) (g.D.Disk.told c.args.disk.now) c.in_ok-copy.ensures.copies c.peek_copy.result
    c.peek_copy.ensures.refused
