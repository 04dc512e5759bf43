use Rattle.std.proofs.lemmas.Result.{err_from_is_err_and}
use Rattle.template_reader.specs.Forest.{tree_in}
use Rattle.template_reader.proofs.Whole.{whole_fails, whole_wrong, whole_finish, whole_parses}
use Rattle.template_reader.proofs.reading.read_body.Goals as goal

pub returns-in_err-part-clause-err : goal.returns-in_err-part-clause-err
returns-in_err-part-clause-err c =
    let p = err_from_is_err_and c.from_residual.result c.from_residual.ensures.1 in
    rw (p.1, p.2) (λ k. whole_fails c.args.body.now c.in_err-part.field-0.0 (c.in_err-part.ensures.err k))

pub returns-in-End-clause-ok : goal.returns-in-End-clause-ok
returns-in-End-clause-ok c =
    let f = c.in_ok-part.part in
    whole_parses _ _ (tree_in f.nodes) f.stop f.place f.rest.from f.rest.taken c.in_ok-part.ensures.ok c.in-End.is

pub returns-in-Otherwise-clause-err : goal.returns-in-Otherwise-clause-err
returns-in-Otherwise-clause-err c =
    let f = c.in_ok-part.part in
    rw c.fault_at.ensures (λ k. whole_wrong c.args.base _ (tree_in f.nodes) f.stop f.place f.rest.from f.rest.taken c.in_ok-part.ensures.ok c.in-Otherwise.is)

pub returns-in-Finish-clause-err : goal.returns-in-Finish-clause-err
returns-in-Finish-clause-err c =
    let f = c.in_ok-part.part in
    rw c.fault_at-in-Finish.ensures (λ k. whole_finish c.args.base _ (tree_in f.nodes) f.stop f.place f.rest.from f.rest.taken _ c.in_ok-part.ensures.ok
    c.in-Finish.is)
