use Rattle.std.proofs.Common.{Result, sym, subst}
use Rattle.std.proofs.lemmas.Result.{err_from_is_err_and}
use Rattle.outside.specs.Told.{Moves}
use Rattle.outside.proofs.Told.{moves_map, moves_ends, moves_where}
use Rattle.store_open.specs.Reading.{IsOfStore, Reads}
use Rattle.store_open.specs.Phases.{RefusesAt}
use Rattle.store_open.specs.declared.stored.Stored.{Stored}
use Rattle.store_open.specs.declared.open_error.OpenError.{OpenError}
use Rattle.store_open.proofs.reading.read_at.Goals as goal

pub returns-in_err-held-clause-reads : goal.returns-in_err-held-clause-reads
returns-in_err-held-clause-reads g c =
    let p = err_from_is_err_and c.from_residual.result c.from_residual.ensures.1 in
    let a = g.D.Disk.told c.args.disk.now in
    let b = g.D.Disk.told c.recover_held.new.disk in
    subst (λ (r : Result Stored OpenError). Moves a b (Reads r)) (sym p.1)
    (moves_map (λ old new both. record { done = tt; refused = both.1 both.0; of_store = subst IsOfStore (sym p.2) c.in_err-held.ensures.of_store })
    (moves_where c.requires.led (subst (λ (e : OpenError). Moves a b (RefusesAt c.args.place e)) (sym p.2) c.in_err-held.ensures.refused)))

pub returns-clause-reads : goal.returns-clause-reads
returns-clause-reads g c =
    moves_map (λ old new all. record {
      done = record { links = all.0.0; journal = all.0.1.journal; recovers = all.0.1.recovers; means = all.1 };
      refused = tt;
      of_store = tt;
    })
    (moves_ends (moves_where c.requires.led c.in_ok-held.ensures.recovers) c.in_ok-held.ensures.holds)
