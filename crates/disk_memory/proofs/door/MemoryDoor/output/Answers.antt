use Rattle.std.proofs.Common.{arith, rules}
use Rattle.disk_memory.proofs.Doors.{output_before, output_last, output_past}
use Rattle.disk_memory.proofs.door.MemoryDoor.output.Goals as goal

pub returns-then-connection-len : goal.returns-then-connection-len
returns-then-connection-len c =
    let door = c.args.self.now in
    output_before door.before.items door.last c.args.connection c.index.result.now c.written.result.now (omega arith) c.index.ensures c.written.ensures

pub returns-in_ok-as_ref : goal.returns-in_ok-as_ref
returns-in_ok-as_ref c =
    let door = c.args.self.now in
    output_last door.before.items door.last c.args.connection c.in_ok-as_ref.field-0.now c.written-then-connection-len-2.result.now (omega arith) (search rules)
    c.written-then-connection-len-2.ensures

pub returns-else-connection-len-2 : goal.returns-else-connection-len-2
returns-else-connection-len-2 c =
    let door = c.args.self.now in
    output_past door.before.items door.last c.args.connection (omega arith)
