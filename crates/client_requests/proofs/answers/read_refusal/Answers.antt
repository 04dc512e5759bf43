use Rattle.std.proofs.Common.{arith, rules, ◌≡◌, ◌<◌, ◌^◌, length}
use Rattle.api_http.specs.Replies.{refused}
use Rattle.client_requests.proofs.Answering.{refused_replied, read_back}
use Rattle.client_requests.proofs.answers.read_refusal.Goals as goal

pub returns-in_err-reply-clause-reply : goal.returns-in_err-reply-clause-reply
returns-in_err-reply-clause-reply c = refused_replied c.args.refusal.now

pub returns-clause-reply : goal.returns-clause-reply
returns-clause-reply c = refused_replied c.args.refusal.now

pub returns-clause-read : goal.returns-clause-read
returns-clause-read c =
    let bytes = c.bytes.result.now in
    let printed : bytes ≡ (refused c.args.refusal.now).bytes = search rules in
    let below : length bytes < 2 ^ 64 = omega arith in
    c.read_reply.ensures.every _ _ (read_back (refused c.args.refusal.now) bytes printed below (refused_replied c.args.refusal.now))
