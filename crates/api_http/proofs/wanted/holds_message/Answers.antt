use Rattle.std.proofs.Common.{arith, ap, length, subst}
use Rattle.httparse.specs.Grammar.{HasNoRequest}
use Rattle.api_http.proofs.Hopeless.{no_head_there, length-shown}
use Rattle.api_http.proofs.Messages.{found_message, message_found}
use Rattle.api_http.proofs.wanted.holds_message.Goals as goal

pub split_at-requires-in-Ok : goal.split_at-requires-in-Ok
split_at-requires-in-Ok c = omega (arith, c.in-Ok.ensures.within.section.len_fits, ap length c.shown_of-full.ensures.part, length-shown c.args.bytes.now)

pub returns-in-Ok : goal.returns-in-Ok
returns-in-Ok c =
    let is = c.is_body_within.ensures in
    let found = found_message c.args.bytes.now _ _ c.split_at.result.0.now c.in-Ok.head c.split_at-in-Ok.result.1.now c.shown_of-full.ensures.part
    c.in-Ok.ensures.whole c.split_at.ensures.front c.split_at-in-Ok.ensures.back in
    let back = message_found c.args.bytes.now _ _ c.split_at.result.0.now c.in-Ok.head c.split_at-in-Ok.result.1.now c.shown_of-full.ensures.part
    c.in-Ok.ensures.whole c.split_at.ensures.front c.split_at-in-Ok.ensures.back in
    (λ t. found (is.0 t), λ m. is.1 (back m))

pub returns-in-Err : goal.returns-in-Err
returns-in-Err c = (
  λ t. absurd (cc t),
  λ m. absurd (no_head_there c.args.bytes.now (subst HasNoRequest c.shown_of-full.ensures.part c.in-Err.ensures.none) m.head m.rest m.whole),
)
