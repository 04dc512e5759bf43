use Rattle.std.proofs.Common.{◌∙◌, refl}
use Rattle.outside.proofs.Told.{moves_stay, moves_then}
use Rattle.core_commands.proofs.Asked.{none_asked, asked_more, asked_last}
use Rattle.core_commands.proofs.Causes.{error_is}
use Rattle.core_commands.proofs.asking.ask_each.Goals as goal

pub loop-request-init : goal.loop-request-init
loop-request-init g c = record { asked = moves_stay (λ h. none_asked c.args.core.now h); sound = c.requires.sound; calm = c.requires.calm; same = refl }

pub returns-in_err-ask-clause-asks : goal.returns-in_err-ask-clause-asks
returns-in_err-ask-clause-asks g c =
    rw (error_is c.from_residual.result _ c.from_residual.ensures.1)
    (moves_then
    (λ old mid new asked asks. asked_last (λ reply done. Unit {0}) c.in_err-ask.field-0.0 c.args.asks.now c.loop-request.request-index c.request-item.result
    c.loop-request-test.true c.request-item.is c.args.core.now c.loop-request.core c.ask.new.core old mid new asked asks)
    c.loop-request.invariant.asked c.in_err-ask.ensures.asks)

pub loop-request-preserved : goal.loop-request-preserved
loop-request-preserved g c = record {
  asked = moves_then
      (λ old mid new asked asks. asked_more (λ reply done. Unit {0}) tt c.args.asks.now c.loop-request.request-index c.request-item.result
      c.loop-request-test.true c.request-item.is c.args.core.now c.loop-request.core c.ask.new.core old mid new asked asks)
      c.loop-request.invariant.asked c.in_ok-ask.ensures.asks;
  sound = c.ask.ensures.sound;
  calm = c.in_ok-ask.ensures.calm;
  same = c.in_ok-ask.ensures.cause.kept ∙ c.loop-request.invariant.same;
}
