use Rattle.std.proofs.Common.{Ok}
use Rattle.std.proofs.lemmas.Result.{on_ok_weaker}
use Rattle.json_trees.proofs.Branches.{on_ok_both}
use Rattle.plain_machine.proofs.TurnsMade.{file_written, file_refused}
use Rattle.plain_machine.proofs.machine.PlainMachine.write.Goals as goal

pub returns-in-Ok-clause-turned : goal.returns-in-Ok-clause-turned
returns-in-Ok-clause-turned c = on_ok_weaker c.put_file.result
    (λ written. file_written c.args.image.now c.args.self.now c.put_file.new.self c.args.file 0 (Ok c.in-Ok.bytes.items)
    (rw c.of-live.ensures at c.in-Ok.ensures.ok) written)
    c.put_file.ensures.written

pub returns-in-Err-clause-turned : goal.returns-in-Err-clause-turned
returns-in-Err-clause-turned c = on_ok_both c.refuse.result
    (λ known is. file_refused c.args.image.now c.args.self.now c.refuse.new.self c.args.file 0 c.in-Err.error
    (rw c.of-live.ensures at (c.in-Err.ensures.err known)) is)
    c.refuse.ensures.known c.refuse.ensures.refused
