use Rattle.std.proofs.Common.{Result, sym, subst}
use Rattle.std.specs.Prelude.{IfErr}
use Rattle.std.proofs.lemmas.Result.{err_from_is_err_and}
use Rattle.outside.specs.History.{tree_of}
use Rattle.outside.specs.Told.{WhereTold}
use Rattle.store_open.specs.Peeking.{TellsOf}
use Rattle.store_open.specs.declared.stored.Stored.{Stored}
use Rattle.store_open.specs.declared.open_error.OpenError.{OpenError}
use Rattle.store_open.proofs.Peeked.{told_links}
use Rattle.store_open.proofs.peeking.peek_store.Goals as goal

pub returns-in_err-place-clause-refused : goal.returns-in_err-place-clause-refused
returns-in_err-place-clause-refused g c =
    let p = err_from_is_err_and c.from_residual.result c.from_residual.ensures.1 in
    let a = g.D.Disk.told c.args.disk.now in
    subst (λ (r : Result Stored OpenError). IfErr r (λ e. WhereTold a (λ h. TellsOf e (tree_of h)))) (sym p.1)
    (told_links a c.in_err-place.field-0.0 p.0 p.2 c.in_err-place.ensures.bad_link)
