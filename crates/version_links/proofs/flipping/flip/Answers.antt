use Rattle.std.proofs.lemmas.Result.{err_from_is_err_and}
use Rattle.version_links.proofs.Kept.{first_fails, second_fails, third_fails, last_ends}
use Rattle.version_links.proofs.flipping.flip.Goals as goal

pub returns-in_err-relink-clause-flips : goal.returns-in_err-relink-clause-flips
returns-in_err-relink-clause-flips g c =
    let p = err_from_is_err_and c.from_residual.result c.from_residual.ensures.1 in
    rw p.1 (first_fails _ _ c.names.view_is _ _ _ _ _ c.names.invariant _ _ _ _ c.in_err-relink.ensures.moves)

pub returns-in_err-relink-2-clause-flips : goal.returns-in_err-relink-2-clause-flips
returns-in_err-relink-2-clause-flips g c =
    let p = err_from_is_err_and c.from_residual-in_err-relink-2.result c.from_residual-in_err-relink-2.ensures.1 in
    rw p.1 (second_fails _ _ c.names.view_is _ _ _ _ _ c.names.invariant _ _ _ _ _ _ c.in_ok-relink.ensures.moves c.in_err-relink-2.ensures.moves)

pub returns-in_err-relink-3-clause-flips : goal.returns-in_err-relink-3-clause-flips
returns-in_err-relink-3-clause-flips g c =
    let p = err_from_is_err_and c.from_residual-in_err-relink-3.result c.from_residual-in_err-relink-3.ensures.1 in
    rw p.1 (third_fails _ _ c.names.view_is _ _ _ _ _ c.names.invariant _ _ _ _ _ _ _ _ c.in_ok-relink.ensures.moves c.in_ok-relink-2.ensures.moves
    c.in_err-relink-3.ensures.moves)

pub returns-clause-flips : goal.returns-clause-flips
returns-clause-flips g c =
    last_ends _ _ c.names.view_is _ _ _ _ _ c.names.invariant _ _ _ _ _ _ _ _ _ _ c.in_ok-relink.ensures.moves c.in_ok-relink-2.ensures.moves
    c.in_ok-relink-3.ensures.moves c.relink-4.ensures.moves
