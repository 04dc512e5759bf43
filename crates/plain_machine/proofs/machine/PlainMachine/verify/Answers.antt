use Rattle.std.proofs.Common.{◌∙◌}
use Rattle.std.proofs.lemmas.List.{nil_from_length}
use Rattle.std.specs.Vec.Iter.{into_iter_items}
use Rattle.plain_machine.proofs.Verifications.{asked_verify}
use Rattle.plain_machine.proofs.machine.PlainMachine.verify.Goals as goal

pub returns : goal.returns
returns c =
    let rest = into_iter_items c.loop-file.file-iterator in
    asked_verify c.args.image.now c.args.self.now c.loop-file.files.items rest c.loop-file.invariant.verified
    (nil_from_length rest (c.loop-file.invariant.left ∙ c.in-None.ensures.steps.0))
