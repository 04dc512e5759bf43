use Rattle.std.proofs.Common.{rules, refl, ◌∙◌}
use Rattle.host_client.proofs.Hearings.{part_none, answered, answered_badly}
use Rattle.host_client.proofs.exchange.ask.Goals as goal

pub returns-in_err-text-clause-in_part : goal.returns-in_err-text-clause-in_part
returns-in_err-text-clause-in_part g c = part_none _ _ _ refl

pub returns-in-Ok-clause-answered : goal.returns-in-Ok-clause-answered
returns-in-Ok-clause-answered g c =
    answered _ _ _ _ _ _ _ _ c.in_ok-bytes.ensures.whole (c.deref.ensures.value ∙ c.in_ok-text.ensures) c.deref-2.ensures.value c.in-Ok.ensures.reply

pub returns-in-Err-BadReply-clause-badly : goal.returns-in-Err-BadReply-clause-badly
returns-in-Err-BadReply-clause-badly g c =
    λ _. answered_badly _ _ _ _ _ _ c.in_ok-bytes.ensures.whole (c.deref.ensures.value ∙ c.in_ok-text.ensures) c.deref-2.ensures.value
    (c.in-Err-BadReply.ensures.refused (search rules))
