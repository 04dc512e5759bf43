use Rattle.std.proofs.Common.{arith, ◌<◌, ◌^◌, length}
use Rattle.std.proofs.lemmas.Result.{MatchResult-weaker}
use Rattle.client_requests.proofs.Answering.{said_replied, read_back, heard}
use Rattle.client_requests.proofs.answers.read_answer.Goals as goal

pub returns-in_err-reply-clause-reply : goal.returns-in_err-reply-clause-reply
returns-in_err-reply-clause-reply c = said_replied _

pub returns-clause-reply : goal.returns-clause-reply
returns-clause-reply c = said_replied _

pub returns-clause-read : goal.returns-clause-read
returns-clause-read c =
    let bytes = c.bytes.result.now in
    let says = c.in_ok-reply.ensures in
    let below : length bytes < 2 ^ 64 = omega arith in
    MatchResult-weaker c.read_reply.result
    (c.read_reply.ensures.every _ _ (read_back c.in_ok-reply.reply bytes c.bytes.ensures below (said_replied _ _ says)))
    (λ got is. heard _ c.in_ok-reply.reply got.status got.body says is) (λ e is. is)
