use Rattle.std.proofs.Common.{Option, Result, sym, subst}
use Rattle.std.proofs.lemmas.Result.{err_from_is_err_and}
use Rattle.outside.specs.History.{History, tree_of}
use Rattle.outside.specs.Told.{Moves, WhereTold}
use Rattle.outside.proofs.Told.{moves_after}
use Rattle.version_links.specs.Chain.{nowhere, Resolves}
use Rattle.version_links.specs.Steps.{outcome_of}
use Rattle.version_links.specs.declared.chain.Place.{Place}
use Rattle.store_open.specs.Beginning.{Begins}
use Rattle.store_open.specs.declared.begin_error.InitError.{InitError}
use Rattle.store_open.proofs.Begun.{exit_links, exit_there}
use Rattle.store_open.proofs.beginning.begin.Goals as goal

pub returns-in_err-place-clause-begins : goal.returns-in_err-place-clause-begins
returns-in_err-place-clause-begins g c =
    let p = err_from_is_err_and c.from_residual.result c.from_residual.ensures.1 in
    let a = g.D.Disk.told c.args.disk.now in
    let b = g.D.Disk.told c.resolve.new.disk in
    subst (λ (r : Result Unit InitError). Moves a b (Begins c.args.version.now c.args.held.now r)) (sym p.1)
    (exit_links c.args.version.now c.args.held.now a b c.in_err-place.field-0.0 p.0 c.resolve.ensures.same p.2 c.in_err-place.ensures.bad_link)

pub returns-in-Some-clause-begins : goal.returns-in-Some-clause-begins
returns-in-Some-clause-begins g c =
    let a = g.D.Disk.told c.args.disk.now in
    let place = c.in-Some.place in
    exit_there c.args.version.now c.args.held.now a (g.D.Disk.told c.resolve.new.disk) place.version place.directory c.resolve.ensures.same
    (subst (λ (o : Option Place). WhereTold a (λ h. Resolves (tree_of h) (outcome_of o))) c.in-Some.is c.in_ok-place.ensures.ok)

pub begin_fresh-requires : goal.begin_fresh-requires
begin_fresh-requires g c =
    subst (λ (t : Option History). WhereTold t (λ h. Resolves (tree_of h) nowhere)) (sym c.resolve.ensures.same)
    (subst (λ (o : Option Place). WhereTold (g.D.Disk.told c.args.disk.now) (λ h. Resolves (tree_of h) (outcome_of o))) c.in-None.is c.in_ok-place.ensures.ok)

pub returns-in-None-clause-begins : goal.returns-in-None-clause-begins
returns-in-None-clause-begins g c = moves_after c.resolve.ensures.same c.begin_fresh.ensures.begins
