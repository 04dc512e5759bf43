use Rattle.template_reader.proofs.Parts.{passed}
use Rattle.template_reader.proofs.reading.pass_text.Goals as goal

pub returns-clause-passes : goal.returns-clause-passes
returns-clause-passes c =
    let f = c.in-Some.found in
    let next = rw c.in-Some.is at c.in_ok-found.ensures.next in
    passed _ _ _ _ _ _ f.start f.end _ _ f.tag _ _ next c.split_at.ensures.front c.tail.ensures c.taken-before.ensures.before c.taken-before.ensures.after
    c.taken-before.ensures.in_after c.in_ok-push_text-2.ensures
