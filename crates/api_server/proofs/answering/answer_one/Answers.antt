use Rattle.std.proofs.Common.{◌∙◌, ap}
use Rattle.outside.proofs.Told.{moves_stay, moves_map}
use Rattle.api_http.specs.Replies.{Sent}
use Rattle.api_server.proofs.Replied.{handles_told}
use Rattle.api_server.proofs.Answerings.{answered_nothing, answered_memory, answered_refusal, answered_ask}
use Rattle.api_server.proofs.answering.answer_one.Goals as goal

pub returns-in-Ended-clause-answers : goal.returns-in-Ended-clause-answers
returns-in-Ended-clause-answers g c = moves_stay (λ h. answered_nothing c.args.core.now _ _ _ _ h c.in-Ended.ensures.heard)

pub returns-in-Memory-clause-answers : goal.returns-in-Memory-clause-answers
returns-in-Memory-clause-answers g c =
    moves_stay (λ h. answered_memory c.args.core.now _ c.memory.result _ _ _ _ _ h c.bytes-in-Memory.ensures c.memory.ensures c.in-Memory.ensures.heard
    c.say.ensures.said)

pub returns-in-Refused-clause-answers : goal.returns-in-Refused-clause-answers
returns-in-Refused-clause-answers g c =
    moves_stay (λ h. answered_refusal c.args.core.now _ c.in-Refused.refusal c.logged_refusal-reply.result _ _ _ _ _ _ h c.bytes-in-Refused.ensures
    c.logged_refusal-reply.ensures
    c.in-Refused.ensures.heard c.say-in-Refused.ensures.said)

pub returns-in-Asked-clause-answers : goal.returns-in-Asked-clause-answers
returns-in-Asked-clause-answers g c =
    moves_map
    (λ old new handles.
    answered_ask c.args.core.now c.handle.new.core _ _ c.in-Asked.request c.handle.result _ _ _ _ _ _ old new
    (c.bytes-in-Asked.ensures ∙ ap (λ (s : Sent). s.bytes) c.reply-reply.ensures) c.handle.ensures.cause.failed
    c.in-Asked.ensures.heard c.say-in-Asked.ensures.said handles) (handles_told _ _ _ _ _ _ _ _ c.handle.ensures.handles c.handle.ensures.other)
