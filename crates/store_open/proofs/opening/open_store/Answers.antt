use Rattle.std.proofs.Common.{Result, Err, sym, subst, refl}
use Rattle.std.proofs.lemmas.Result.{err_from_is_err_and}
use Rattle.outside.specs.Told.{Moves}
use Rattle.outside.proofs.Told.{moves_map, moves_then}
use Rattle.store_open.specs.Opening.{Opens}
use Rattle.store_open.specs.Phases.{Ends}
use Rattle.store_open.specs.declared.opened.Opened.{Opened}
use Rattle.store_open.specs.declared.open_error.OpenError.{OpenError}
use Rattle.store_open.proofs.Exits.{opens_not}
use Rattle.store_open.proofs.opening.open_store.Goals as goal

pub returns-in_err-stored-clause-opens : goal.returns-in_err-stored-clause-opens
returns-in_err-stored-clause-opens g c =
    let p = err_from_is_err_and c.from_residual.result c.from_residual.ensures.1 in
    let a = g.D.Disk.told c.args.disk.now in
    let b = g.D.Disk.told c.read_store.new.disk in
    subst (λ (r : Result Opened OpenError). Moves a b (Opens c.args.boot r)) (sym p.1)
    (moves_map (λ old new reads. subst (λ (e : OpenError). Opens c.args.boot (Err e) old new) (sym p.2)
    (opens_not c.args.boot c.in_err-stored.field-0.0 old new reads.refused)) c.in_err-stored.ensures.reads)

pub returns-in_err-image-clause-opens : goal.returns-in_err-image-clause-opens
returns-in_err-image-clause-opens g c =
    let p = err_from_is_err_and c.from_residual-in_err-image.result c.from_residual-in_err-image.ensures.1 in
    let place = c.in_ok-stored.stored.place in
    let b = g.D.Disk.told c.read_store.new.disk in
    let d = g.D.Disk.told c.step_to_image.new.disk in
    subst (λ (r : Result Opened OpenError). Moves (g.D.Disk.told c.args.disk.now) d (Opens c.args.boot r)) (sym p.1)
    (moves_then (λ old mid new reads ends. ends old reads.done.links (record { journal = reads.done.journal; recovers = reads.done.recovers }))
    c.in_ok-stored.ensures.reads
    (subst (λ (e : OpenError). Moves b d (Ends c.args.boot place (Err e))) (sym p.2) c.in_err-image.ensures.refused))

pub returns-clause-opens : goal.returns-clause-opens
returns-clause-opens g c =
    moves_then (λ old mid new reads ends.
    ends (record { place = c.in_ok-stored.stored.place; held = c.step_to_image.new.held; image = c.in_ok-image.image; fits = _ }) refl refl refl
    old reads.done.links (record { journal = reads.done.journal; recovers = reads.done.recovers }))
    c.in_ok-stored.ensures.reads c.in_ok-image.ensures.opens
