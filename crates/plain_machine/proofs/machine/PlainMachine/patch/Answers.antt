use Rattle.std.proofs.Common.{refl, ap}
use Rattle.settings_tree.specs.declared.held.Held.{Held}
use Rattle.settings_machine.specs.Step.{with_held}
use Rattle.std.proofs.lemmas.Result.{IfOk-weaker}
use Rattle.plain_machine.specs.Worlds.{world_of}
use Rattle.std.proofs.lemmas.Result.{on_err_weaker}
use Rattle.plain_machine.proofs.RequestsAnswered.{asked_patch}
use Rattle.plain_machine.proofs.machine.PlainMachine.patch.Goals as goal

pub returns-clause-asked : goal.returns-clause-asked
returns-clause-asked c = IfOk-weaker c.pend.result _ _ (λ o a. asked_patch c.args.image.now c.args.self.now _ c.args.tx.now c.args.pairs.now _ a refl)
    c.pend.ensures.answered

pub returns-clause-unchanged : goal.returns-clause-unchanged
returns-clause-unchanged c = on_err_weaker c.pend.result (λ same. ap (λ (h : Held). with_held (world_of c.args.self.now) h) same) c.pend.ensures.unchanged
