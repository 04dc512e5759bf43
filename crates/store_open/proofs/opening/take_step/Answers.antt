use Rattle.std.proofs.Common.{◌≡◌, Result, Err, refl, sym, subst}
use Rattle.std.specs.Prelude.{IfErr}
use Rattle.std.proofs.lemmas.Result.{err_from_is_err_and}
use Rattle.outside.specs.Told.{Moves}
use Rattle.outside.proofs.Results.{handed_on}
use Rattle.outside.proofs.Told.{moves_map, moves_stay, moves_where, where_both}
use Rattle.store_open.specs.Phases.{Ends}
use Rattle.store_open.specs.declared.open_error.OpenError.{OpenError}
use Rattle.store_open.proofs.ReadStores.{told_image, at_types}
use Rattle.store_open.proofs.LastExits.{ends_read, ends_failed, ends_open}
use Rattle.store_open.proofs.opening.take_step.Goals as goal

pub returns-in_err-check_types-clause-refused : goal.returns-in_err-check_types-clause-refused
returns-in_err-check_types-clause-refused g c =
    let place = c.args.place.now in
    let image = c.args.image.now in
    let a = g.D.Disk.told c.args.disk.now in
    let e = c.in_err-check_types.field-0.0 in
    let fault = at_types place.directory a c.args.held.now image e c.in_err-check_types.ensures.refused c.requires.holds
    (told_image a image c.len.ensures.table c.requires.read) in
    handed_on c.from_residual.result e (λ e. Moves a a (Ends c.args.boot place (Err e))) c.from_residual.ensures.1
    (moves_map (λ mid new both. ends_read c.args.boot place e mid new both.0 both.1) (moves_where fault (moves_stay {R = λ mid new. new ≡ mid} (λ h. refl))))

pub returns-in_err-make_step-clause-refused : goal.returns-in_err-make_step-clause-refused
returns-in_err-make_step-clause-refused g c =
    let p = err_from_is_err_and c.from_residual-in_err-make_step.result c.from_residual-in_err-make_step.ensures.1 in
    let place = c.args.place.now in
    let held = c.args.held.now in
    let image = c.args.image.now in
    let a = g.D.Disk.told c.args.disk.now in
    subst (λ (r : Result Unit OpenError). IfErr r (λ e. Moves a (g.D.Disk.told c.make_step.new.disk) (Ends c.args.boot place (Err e)))) (sym p.1)
    (moves_map (λ mid new all. ends_failed c.args.boot place held image mid new all.0.0 all.0.1 c.in_ok-check_types.ensures.typed c.in_err-make_step.field-0.0
    p.0 p.2 all.1)
    (moves_where (where_both c.requires.holds (told_image a image c.len.ensures.table c.requires.read)) c.in_err-make_step.ensures.lays))

pub returns-clause-opens : goal.returns-clause-opens
returns-clause-opens g c =
    let image = c.args.image.now in
    let a = g.D.Disk.told c.args.disk.now in
    moves_map (λ mid new all. ends_open c.args.boot c.args.place.now c.args.held.now image mid new all.0.0 all.0.1 c.in_ok-check_types.ensures.typed
    c.make_step.new.held c.in_ok-make_step.ensures.made all.1)
    (moves_where (where_both c.requires.holds (told_image a image c.len.ensures.table c.requires.read)) c.in_ok-make_step.ensures.lays)
