use Rattle.std.proofs.Common.{◌≡◌, refl}
use Rattle.outside.proofs.Told.{moves_map}
use Rattle.api_http.specs.Replies.{is_of_success}
use Rattle.settings_machine.specs.Asked.{request_of}
use Rattle.load_input.specs.Counts.{with_reply}
use Rattle.load_input.proofs.Runs.{reply_is, one_reply, heard_by, counted_reply}
use Rattle.load_input.proofs.asking.answer.Goals as goal

pub returns-clause-counted : goal.returns-clause-counted
returns-clause-counted g c = λ runs.
    let sent = c.in-Answered.reply in
    let fine = is_of_success sent.status in
    let is : c.count.new.counts ≡ with_reply fine c.args.counts.now =
    reply_is fine c.args.counts.now c.count.new.counts c.in_ok-count.ensures.success c.in_ok-count.ensures.refused in
    moves_map
    (λ old new handles. counted_reply c.args.request.now c.args.core.now c.handle.new.core (request_of c.in_ok-request.request) sent fine c.args.counts.now
    c.count.new.counts runs _ _ old new c.requires.calm c.requires.idle
    (heard_by c.args.request.now c.in_ok-request.request _ _ c.in_ok-door.ensures.fresh c.in_ok-request.ensures.heard.told) refl is handles)
    c.in-Answered.ensures.handles

pub returns-clause-one : goal.returns-clause-one
returns-clause-one g c =
    let fine = is_of_success c.in-Answered.reply.status in
    one_reply fine c.args.counts.now c.count.new.counts
    (reply_is fine c.args.counts.now c.count.new.counts c.in_ok-count.ensures.success c.in_ok-count.ensures.refused)
