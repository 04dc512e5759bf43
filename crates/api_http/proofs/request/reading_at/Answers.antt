use Rattle.std.proofs.Common.{arith, ap, length}
use Rattle.api_http.proofs.Hopeless.{length-shown}
use Rattle.api_http.proofs.Readings.{found_whole, found_refused, found_waits}
use Rattle.api_http.proofs.request.reading_at.Goals as goal
use Rattle.std.proofs.lemmas.Result.{IfOk-weaker}

pub split_at-requires-2 : goal.split_at-requires-2
split_at-requires-2 c = omega (arith, c.requires.within.section.len_fits, ap length c.requires.part, length-shown c.args.bytes.now)

pub returns-clause-whole : goal.returns-clause-whole
returns-clause-whole c =
    IfOk-weaker c.with_body.result _ _
    (λ reading said. found_whole c.args.bytes.now c.args.part.now c.args.headers.now c.split_at.result.0.now c.args.head c.of-method.result.now
    c.of-target.result.now c.split_at-2.result.1.now c.in_ok-verdict.verdict reading c.requires.part c.requires.head c.split_at.ensures.front
    c.of-method.ensures c.of-target.ensures c.split_at-2.ensures.back c.in_ok-verdict.ensures said)
    c.with_body.ensures

pub returns-clause-refused : goal.returns-clause-refused
returns-clause-refused c =
    IfOk-weaker c.with_body.result _ _
    (λ reading said. found_refused c.args.bytes.now c.args.part.now c.args.headers.now c.split_at.result.0.now c.args.head c.of-method.result.now
    c.of-target.result.now c.split_at-2.result.1.now c.in_ok-verdict.verdict reading c.requires.part c.requires.head c.split_at.ensures.front
    c.of-method.ensures c.of-target.ensures c.split_at-2.ensures.back c.in_ok-verdict.ensures said)
    c.with_body.ensures

pub returns-clause-not_yet : goal.returns-clause-not_yet
returns-clause-not_yet c =
    IfOk-weaker c.with_body.result _ _
    (λ reading said. found_waits c.args.bytes.now c.args.part.now c.args.headers.now c.split_at.result.0.now c.args.head c.of-method.result.now
    c.of-target.result.now c.split_at-2.result.1.now c.in_ok-verdict.verdict reading c.requires.part c.requires.head c.split_at.ensures.front
    c.of-method.ensures c.of-target.ensures c.split_at-2.ensures.back c.in_ok-verdict.ensures said)
    c.with_body.ensures
