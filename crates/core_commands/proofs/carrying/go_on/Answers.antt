use Rattle.outside.proofs.Told.{moves_map}
use Rattle.core_commands.specs.Asking.{requests}
use Rattle.core_commands.proofs.Carryings.{goes_core}
use Rattle.core_commands.proofs.carrying.go_on.Goals as goal

pub returns-clause-goes : goal.returns-clause-goes
returns-clause-goes g c =
    rw c.once_done.ensures
    (moves_map
    (λ old new goes. goes_core (requests c.args.asks.now) c.ask_and_drive-done.new.core c.ask_and_drive-done.result _ _ c.args.store old new goes)
    (c.ask_and_drive-done.ensures.goes c.args.store record { state = c.new-core.ensures.state; image = c.new-core.ensures.image }))
