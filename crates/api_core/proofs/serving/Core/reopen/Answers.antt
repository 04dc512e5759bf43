use Rattle.std.proofs.Common.{rules, ◌≡◌, Result, Err, refl, sym, subst}
use Rattle.outside.specs.Told.{Moves}
use Rattle.outside.proofs.Told.{moves_map}
use Rattle.store_open.specs.declared.open_error.OpenError.{OpenError}
use Rattle.api_core.specs.Reopened.{Reopens}
use Rattle.api_core.proofs.serving.Core.reopen.Goals as goal

pub returns-in_err-store-clause-reopens : goal.returns-in_err-store-clause-reopens
returns-in_err-store-clause-reopens g c =
    let is : c.from_residual.result ≡ Err c.in_err-store.field-0.0 = search rules in
    subst (λ (r : Result (Unit {0}) OpenError). Moves (g.D.Disk.told c.args.disk.now) (g.D.Disk.told c.open_store.new.disk)
    (Reopens c.args.self.now r c.args.self.now)) (sym is)
    (moves_map (λ old new opens. record { opens = opens; same = refl }) (c.in_err-store.ensures {u = tt}).opens)

pub returns-clause-reopens : goal.returns-clause-reopens
returns-clause-reopens g c =
    moves_map
    (λ old new opens. record { store = c.in_ok-store.store; opens = opens; state = c.reopen_with.ensures.state; image = c.reopen_with.ensures.image })
    (c.in_ok-store.ensures {u = tt}).opens
