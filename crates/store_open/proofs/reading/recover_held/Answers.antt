use Rattle.std.proofs.Common.{Result, Ok, Err, sym, subst}
use Rattle.std.specs.Prelude.{OnOk, IfOk, IfErr}
use Rattle.std.proofs.lemmas.Result.{err_from_is_err_and, IfErr-weaker}
use Rattle.outside.specs.History.{tree_of}
use Rattle.outside.specs.Told.{Moves, WhereTold}
use Rattle.outside.proofs.Told.{moves_map, moves_ends}
use Rattle.commit_journal.specs.Files.{files_below}
use Rattle.fs_datastore.specs.Stands.{Stands}
use Rattle.settings_tree.specs.declared.held.Held.{Held}
use Rattle.store_open.specs.Phases.{HasRecovered, RefusesAt}
use Rattle.store_open.specs.declared.open_error.OpenError.{OpenError}
use Rattle.store_open.proofs.Exits.{exit_journal, exit_read}
use Rattle.store_open.proofs.reading.recover_held.Goals as goal

on_ok_always : {T E P : Type 0} (r : Result T E) → P → OnOk r P
on_ok_always (Ok x) p = p
on_ok_always (Err e) p = tt

pub returns-in_err-recover-clause-refused : goal.returns-in_err-recover-clause-refused
returns-in_err-recover-clause-refused g c =
    let p = err_from_is_err_and c.from_residual.result c.from_residual.ensures.1 in
    let place = c.args.place.now in
    subst (λ (r : Result Held OpenError). IfErr r (λ e. Moves (g.D.Disk.told c.args.disk.now) (g.D.Disk.told c.recover.new.disk) (RefusesAt place e))) (sym p.1)
    (moves_map (λ old new recovers links. exit_journal place.directory place.version c.in_err-recover.field-0.0 p.0 old new p.2 recovers links)
    c.in_err-recover.ensures.recovers)

pub returns-clause-recovers : goal.returns-clause-recovers
returns-clause-recovers g c =
    let told = g.D.Disk.told in
    on_ok_always c.load_current.result (subst (λ t. Moves (told c.args.disk.now) t (HasRecovered c.args.place.now.directory)) (sym c.load_current.ensures.same)
    (moves_map (λ old new recovers. record { journal = c.in_ok-recover.field-0; recovers = recovers }) c.in_ok-recover.ensures.recovers))

pub returns-clause-holds : goal.returns-clause-holds
returns-clause-holds g c =
    subst (λ t. IfOk c.load_current.result (λ held. WhereTold t (λ h. Stands (files_below c.args.place.now.directory (tree_of h)) held 2)))
    (sym c.load_current.ensures.same) c.load_current.ensures.held

pub returns-clause-refused : goal.returns-clause-refused
returns-clause-refused g c =
    let place = c.args.place.now in
    let told = g.D.Disk.told in
    IfErr-weaker c.load_current.result _ (λ e. Moves (told c.args.disk.now) (told c.load_current.new.disk) (RefusesAt place e))
    (λ e fault. subst (λ t. Moves (told c.args.disk.now) t (RefusesAt place e)) (sym c.load_current.ensures.same)
    (moves_map (λ old new both links. exit_read place.directory place.version c.in_ok-recover.field-0 e old new both.1 both.0 links)
    (moves_ends c.in_ok-recover.ensures.recovers fault))) c.load_current.ensures.refused
