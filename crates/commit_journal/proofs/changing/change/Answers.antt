use Rattle.std.proofs.lemmas.Result.{err_from_is_err_and}
use Rattle.commit_journal.proofs.Exits.{commit_fails, commit_ends}
use Rattle.commit_journal.proofs.changing.change.Goals as goal

pub returns-in_err-put_kept-clause-commits : goal.returns-in_err-put_kept-clause-commits
returns-in_err-put_kept-clause-commits g c =
    let p = err_from_is_err_and c.from_residual.result c.from_residual.ensures.1 in
    rw p.1 (commit_fails _ _ _ _ _ _ c.batch.view_is c.batch.invariant c.deref.ensures.value _ _ _ c.in_err-put_kept.ensures.moves)

pub returns-clause-commits : goal.returns-clause-commits
returns-clause-commits g c =
    commit_ends _ _ _ _ _ _ c.batch.view_is c.batch.invariant c.deref.ensures.value _ _ _ _ _ c.in_ok-put_kept.ensures.moves c.carry_out.ensures.moves
