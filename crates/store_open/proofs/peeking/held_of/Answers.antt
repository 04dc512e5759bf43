use Rattle.disk_memory.specs.Disk.{history_of}
use Rattle.store_open.proofs.Peeked.{held_in, told_in}
use Rattle.store_open.proofs.peeking.held_of.Goals as goal

pub returns-clause-holds : goal.returns-clause-holds
returns-clause-holds c =
    held_in c.args.dir.now c.in_ok-recover.field-0 (history_of c.args.copy.now) (history_of c.recover.new.disk) c.in_ok-recover.ensures.recovers.told
    c.load_current.result c.load_current.ensures.held

pub returns-clause-refused : goal.returns-clause-refused
returns-clause-refused c =
    told_in c.args.dir.now c.in_ok-recover.field-0 (history_of c.args.copy.now) (history_of c.recover.new.disk) c.in_ok-recover.ensures.recovers.told
    c.load_current.result c.load_current.ensures.refused c.load_current.ensures.of_store
