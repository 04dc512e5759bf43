use Rattle.std.proofs.Common.{map, subst}
use Rattle.httparse.specs.Spans.{header_bytes}
use Rattle.api_http.specs.Requests.{Told}
use Rattle.api_http.specs.Plans.{AimsAt}
use Rattle.api_http.proofs.Aims.{planned_tells}
use Rattle.api_http.proofs.request.verdict_with.Goals as goal

pub returns-in-Refused : goal.returns-in-Refused
returns-in-Refused c =
    let t : Told = record { method = c.args.method.now; target = c.args.target.now; fields = map (header_bytes c.args.part.now) c.args.headers.now } in
    subst (AimsAt t) c.in-Refused.is (c.in_ok-refusal.ensures t.fields) c.requires.sound.0

pub returns-in-Planned : goal.returns-in-Planned
returns-in-Planned c =
    let t : Told = record { method = c.args.method.now; target = c.args.target.now; fields = map (header_bytes c.args.part.now) c.args.headers.now } in
    rw c.planned.ensures (planned_tells t c.in-Planned.plan c.args.size c.has_field-coded.result
    (subst (AimsAt t) c.in-Planned.is (c.in_ok-refusal.ensures t.fields)) c.requires.sound c.has_field-coded.ensures)
