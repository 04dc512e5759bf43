use Rattle.std.proofs.Common.{◌≡◌, Option, Result, Err, refl, sym, subst}
use Rattle.std.specs.Prelude.{IfErr}
use Rattle.std.proofs.lemmas.Result.{err_from_is_err_and}
use Rattle.outside.specs.History.{History, tree_of}
use Rattle.outside.proofs.Results.{handed_on}
use Rattle.outside.specs.Told.{Moves, WhereTold}
use Rattle.outside.proofs.Told.{moves_map, moves_same, moves_where, moves_after}
use Rattle.commit_journal.specs.Files.{files_below}
use Rattle.fs_datastore.specs.Stands.{Stands}
use Rattle.store_image.specs.Image.{IsImageOf}
use Rattle.store_image.specs.Paths.{sources_in}
use Rattle.store_image.specs.declared.image.Image.{Image}
use Rattle.store_open.specs.Phases.{Ends}
use Rattle.store_open.specs.declared.open_error.OpenError.{OpenError}
use Rattle.store_open.proofs.ReadStores.{at_image}
use Rattle.store_open.proofs.LastExits.{ends_read}
use Rattle.store_open.proofs.opening.step_to_image.Goals as goal

pub returns-in_err-image-clause-refused : goal.returns-in_err-image-clause-refused
returns-in_err-image-clause-refused g c =
    let p = err_from_is_err_and c.from_residual.result c.from_residual.ensures.1 in
    let place = c.args.place.now in
    let a = g.D.Disk.told c.args.disk.now in
    let fault = at_image place.directory a c.args.held.now c.in_err-image.field-0.0 p.0 p.2 c.requires.holds c.in_err-image.ensures.bad in
    subst (λ (r : Result Image OpenError). IfErr r (λ e. Moves a (g.D.Disk.told c.read_image.new.disk) (Ends c.args.boot place (Err e)))) (sym p.1)
    (moves_map (λ mid new both. ends_read c.args.boot place p.0 mid new both.0 both.1)
    (moves_where fault (moves_same {R = λ mid new. new ≡ mid} c.read_image.ensures.same (λ h. refl))))

pub take_step-requires-clause-holds : goal.take_step-requires-clause-holds
take_step-requires-clause-holds g c =
    subst (λ (a : Option History). WhereTold a (λ h. Stands (files_below c.args.place.now.directory (tree_of h)) c.args.held.now 2))
    (sym c.read_image.ensures.same) c.requires.holds

pub take_step-requires-clause-read : goal.take_step-requires-clause-read
take_step-requires-clause-read g c =
    let image = c.in_ok-image.image in
    subst (λ (a : Option History). WhereTold a (λ h. IsImageOf (sources_in (tree_of h)) image.model image.manifest image.templates image.text))
    (sym c.read_image.ensures.same)
    c.in_ok-image.ensures.ok

pub returns-in_err-take_step-clause-refused : goal.returns-in_err-take_step-clause-refused
returns-in_err-take_step-clause-refused g c =
    let e = c.in_err-take_step.field-0.0 in
    handed_on c.from_residual-in_err-take_step.result e
    (λ e. Moves (g.D.Disk.told c.args.disk.now) (g.D.Disk.told c.take_step.new.disk) (Ends c.args.boot c.args.place.now (Err e)))
    c.from_residual-in_err-take_step.ensures.1 (moves_after c.read_image.ensures.same c.in_err-take_step.ensures.refused)

pub returns-clause-opens : goal.returns-clause-opens
returns-clause-opens g c = moves_after c.read_image.ensures.same c.in_ok-take_step.ensures.opens
