use Rattle.std.proofs.Common.{◌≡◌, ℕ, List, [], length, refl, sym, ◌∙◌, ap, subst, arith, rules}
use Rattle.outside.specs.Told.{Moves}
use Rattle.api_http.specs.Requests.{WaitsUntil}
use Rattle.api_server.specs.declared.next.Next.TheVariants as next
use Rattle.api_server.specs.Reading.{IsAdded, LastIf, Comes}
use Rattle.api_server.proofs.Waitings.{until_first, until_longer}
use Rattle.api_server.proofs.Hearings.{added_none, added_more, added_so_far, heard_asked, heard_refused, heard_memory, heard_lost, heard_ended}
use Rattle.api_server.proofs.hearing.hear.Goals as goal

pub loop-bytes-init : goal.loop-bytes-init
loop-bytes-init g c =
    let none : c.new-bytes.result.items ≡ [] = c.new-bytes.ensures.items in
    let told = g.N.Door.told c.args.door.now in
    record {
      so_far = subst (λ (l : List ℕ). Moves told told (LastIf (IsAdded [] l))) (sym none) (added_none told);
      same = refl;
      kept = refl;
      until = subst (λ (l : List ℕ). WaitsUntil l 1) (sym none) until_first;
      less = omega (arith, ap length none);
      most = omega arith;
    }

pub next_of-requires-clause-until : goal.next_of-requires-clause-until
next_of-requires-clause-until g c =
    subst (λ (l : List ℕ). WaitsUntil l c.loop-bytes.wanted) (sym c.deref.ensures.value)
    (until_longer _ _ _ c.loop-bytes.invariant.until c.in-Bytes.ensures.grows)

pub returns-in-Asked-clause-heard : goal.returns-in-Asked-clause-heard
returns-in-Asked-clause-heard g c =
    heard_asked c.in-Asked.request _ _ _ _ c.in-Bytes.ensures.grows (subst (Comes (next.Asked c.in-Asked.request)) c.deref.ensures.value
    c.in-Asked.ensures.comes)
    (added_more _ _ _ _ _ c.loop-bytes.invariant.so_far c.in-Bytes.ensures.read)

pub returns-in-Refused-clause-heard : goal.returns-in-Refused-clause-heard
returns-in-Refused-clause-heard g c =
    heard_refused c.in-Refused.refusal _ _ _ _ c.in-Bytes.ensures.grows
    (subst (Comes (next.Refused c.in-Refused.refusal)) c.deref.ensures.value c.in-Refused.ensures.comes)
    (added_more _ _ _ _ _ c.loop-bytes.invariant.so_far c.in-Bytes.ensures.read)

pub loop-bytes-preserved : goal.loop-bytes-preserved
loop-bytes-preserved g c =
    let waiting = subst (Comes (next.Wanted c.in-Wanted.count)) c.deref.ensures.value c.in-Wanted.ensures.comes in
    record {
      so_far = added_so_far _ _ _ (added_more _ _ _ _ _ c.loop-bytes.invariant.so_far c.in-Bytes.ensures.read);
      same = c.in-Bytes.ensures.same ∙ c.loop-bytes.invariant.same;
      kept = c.in-Bytes.ensures.kept (search rules) ∙ c.loop-bytes.invariant.kept;
      until = waiting.until;
      less = waiting.more;
      most = waiting.most;
    }

pub returns-in-Memory-next_of-clause-heard : goal.returns-in-Memory-next_of-clause-heard
returns-in-Memory-next_of-clause-heard g c = heard_memory _ _ _ _ c.in-Bytes.ensures.grows
    (added_more _ _ _ _ _ c.loop-bytes.invariant.so_far c.in-Bytes.ensures.read)

pub returns-in-End-clause-heard : goal.returns-in-End-clause-heard
returns-in-End-clause-heard g c =
    let was = c.loop-bytes.invariant in heard_ended _ _ _ _ _ was.until was.less was.most was.so_far c.in-End.ensures.read

pub returns-in-Memory-clause-heard : goal.returns-in-Memory-clause-heard
returns-in-Memory-clause-heard g c = heard_lost _ _ _ _ c.loop-bytes.invariant.so_far c.in-Memory.ensures.read
