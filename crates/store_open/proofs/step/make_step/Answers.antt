use Rattle.std.proofs.Common.{arith, ◌≡◌, length, Result, sym, ◌∙◌, ap, subst}
use Rattle.std.proofs.lemmas.Grind.{common_steps}
use Rattle.std.proofs.lemmas.Result.{on_ok_weaker, err_from_is_err_and}
use Rattle.outside.specs.Told.{Moves}
use Rattle.outside.specs.declared.disk_error.DiskErr.{DiskErr}
use Rattle.outside.proofs.Told.{moves_stay}
use Rattle.settings_tree.specs.declared.held.Held.{Held}
use Rattle.store_open.specs.Phases.{Lays}
use Rattle.store_open.specs.Step.{opened}
use Rattle.store_open.proofs.OpenedFits.{change_opens, empty_opens, opened_fits}
use Rattle.store_open.proofs.Steps.{lays_none, lays_same}
use Rattle.store_open.proofs.step.make_step.Goals as goal

pub returns-in_err-change-clause-lays : goal.returns-in_err-change-clause-lays
returns-in_err-change-clause-lays g c =
    let p = err_from_is_err_and c.from_residual.result c.from_residual.ensures.1 in
    let held = c.args.held.now in
    let after = opened c.args.boot c.args.image.now held in
    let t = g.D.Disk.told c.args.disk.now in
    subst (λ (r : Result Unit DiskErr). Moves t t (Lays c.args.dir.now held after r)) (sym p.1) (moves_stay (λ h. lays_none c.args.dir.now held after h p.0))

pub returns-then-is_empty-clause-made : goal.returns-then-is_empty-clause-made
returns-then-is_empty-clause-made g c =
    let none : length c.as_slice.result.now ≡ 0 = grind (arith, common_steps) in
    empty_opens c.args.boot c.args.image.now c.args.held.now c.in_ok-change.change (ap length (sym c.as_slice.ensures.entries) ∙ none)
    c.in_ok-change.ensures.made

pub returns-then-is_empty-clause-lays : goal.returns-then-is_empty-clause-lays
returns-then-is_empty-clause-lays g c =
    let held = c.args.held.now in
    moves_stay (λ h. lays_same c.args.dir.now held (opened c.args.boot c.args.image.now held) h (returns-then-is_empty-clause-made g c))

pub returns-then-is_empty-clause-fits : goal.returns-then-is_empty-clause-fits
returns-then-is_empty-clause-fits g c =
    opened_fits c.args.image.now c.args.held.now c.args.boot c.args.held.now c.requires.typed c.requires.types (returns-then-is_empty-clause-made g c)

pub returns-clause-lays : goal.returns-clause-lays
returns-clause-lays g c =
    let held = c.args.held.now in
    subst (λ (after : Held). Moves (g.D.Disk.told c.args.disk.now) (g.D.Disk.told c.make.new.disk) (Lays c.args.dir.now held after c.make.result))
    (change_opens c.args.boot c.args.image.now held c.in_ok-change.change c.in_ok-change.ensures.made) c.make.ensures.lays

pub returns-clause-made : goal.returns-clause-made
returns-clause-made g c =
    on_ok_weaker c.make.result (λ made. made ∙ change_opens c.args.boot c.args.image.now c.args.held.now c.in_ok-change.change c.in_ok-change.ensures.made)
    c.make.ensures.made

pub returns-clause-fits : goal.returns-clause-fits
returns-clause-fits g c =
    let i = c.args.image.now in
    on_ok_weaker c.make.result (λ made. opened_fits i c.args.held.now c.args.boot c.make.new.held c.requires.typed c.requires.types made)
    (returns-clause-made g c)
