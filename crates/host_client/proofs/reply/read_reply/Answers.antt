use Rattle.std.proofs.Common.{rules, arith, ◌≡◌, drop, subst, sym}
use Rattle.std.proofs.lemmas.Grind.{common_steps}
use Rattle.host_client.specs.Reply.{IsReply, IsNoReply}
use Rattle.host_client.proofs.Replies.{reply_unique}
use Rattle.host_client.proofs.reply.read_reply.Goals as goal

pub returns-in_default-clause-every : goal.returns-in_default-clause-every
returns-in_default-clause-every c status body reply =
    let none : IsNoReply c.args.bytes.now = search rules in absurd (none status body reply)

pub returns-clause-every : goal.returns-clause-every
returns-clause-every c status body reply =
    let bytes = c.args.bytes.now in
    let rest = drop c.in-Some.start bytes in
    let read : IsReply bytes c.in-Some.status rest = search rules in
    let body_is : c.of.result ≡ rest = grind (arith, common_steps) in
    reply_unique bytes c.in-Some.status status c.of.result body (subst (IsReply bytes c.in-Some.status) (sym body_is) read) reply
