use Rattle.std.proofs.Common.{ℕ, List, ◌++◌, subst}
use Rattle.api_http.specs.declared.reading.Reading.{Reading}
use Rattle.api_http.specs.Requests.{Asks, IfWhole}
use Rattle.api_server.proofs.Waitings.{waiting}
use Rattle.api_server.proofs.next.next_of.Goals as goal

pub returns-in-Ok-Whole-clause-comes : goal.returns-in-Ok-Whole-clause-comes
returns-in-Ok-Whole-clause-comes c more = (
  c.in-Ok-Whole.field-0-1,
  subst (λ (r : Reading). IfWhole r (λ q n. (l : List ℕ) → Asks (c.args.bytes.now ++ l) q n)) c.in-Ok-Whole.field-0-is c.in-Ok-Whole.ensures.stays more,
)

pub returns-in-Ok-NotYet-clause-comes : goal.returns-in-Ok-NotYet-clause-comes
returns-in-Ok-NotYet-clause-comes c =
    let e = c.bytes_wanted.ensures in
    waiting c.args.bytes.now c.bytes_wanted.result (c.in-Ok-NotYet.ensures.not_yet c.in-Ok-NotYet.field-0-is) e.more e.waits e.head e.body
