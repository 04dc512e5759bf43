use Rattle.std.proofs.lemmas.Result.{err_from_is_err_and}
use Rattle.commit_journal.proofs.Exits.{carry_fails, carry_ends}
use Rattle.commit_journal.proofs.changing.carry_out.Goals as goal

pub returns-in_err-install_kept-clause-moves : goal.returns-in_err-install_kept-clause-moves
returns-in_err-install_kept-clause-moves g c =
    let p = err_from_is_err_and c.from_residual.result c.from_residual.ensures.1 in
    rw p.1 (carry_fails _ _ _ _ _ _ c.batch.view_is c.batch.invariant c.deref.ensures.value _ _ _ c.in_err-install_kept.ensures.moves)

pub returns-clause-moves : goal.returns-clause-moves
returns-clause-moves g c =
    carry_ends _ _ _ _ _ _ c.batch.view_is c.batch.invariant c.deref.ensures.value _ _ _ _ _ c.in_ok-install_kept.ensures.moves c.remove_kept.ensures.moves
