use Rattle.std.proofs.Common.{Result, sym, subst}
use Rattle.std.proofs.lemmas.Result.{err_from_is_err_and}
use Rattle.outside.specs.Told.{Moves}
use Rattle.outside.proofs.Told.{moves_map}
use Rattle.store_open.specs.Reading.{Reads}
use Rattle.store_open.specs.declared.stored.Stored.{Stored}
use Rattle.store_open.specs.declared.open_error.OpenError.{OpenError}
use Rattle.store_open.proofs.Exits.{exit_links, links_of_store}
use Rattle.store_open.proofs.reading.read_store.Goals as goal

pub returns-in_err-place-clause-reads : goal.returns-in_err-place-clause-reads
returns-in_err-place-clause-reads g c =
    let p = err_from_is_err_and c.from_residual.result c.from_residual.ensures.1 in
    let a = g.D.Disk.told c.args.disk.now in
    let b = g.D.Disk.told c.resolve.new.disk in
    subst (λ (r : Result Stored OpenError). Moves a b (Reads r)) (sym p.1)
    (moves_map (λ old new refuses. record { done = tt; refused = refuses; of_store = links_of_store c.in_err-place.field-0.0 p.0 p.2 })
    (exit_links a b c.in_err-place.field-0.0 p.0 c.resolve.ensures.same p.2 c.in_err-place.ensures.bad_link))
