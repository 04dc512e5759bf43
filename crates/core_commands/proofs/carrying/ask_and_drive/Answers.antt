use Rattle.std.proofs.Common.{refl}
use Rattle.outside.proofs.Told.{moves_map, moves_then}
use Rattle.api_core.specs.Cores.{core_state}
use Rattle.core_commands.specs.Asking.{requests}
use Rattle.core_commands.specs.Carried.{HoldsAll}
use Rattle.core_commands.proofs.Causes.{error_is}
use Rattle.core_commands.proofs.Following.{follows_stop, ends_from, follows_driven}
use Rattle.core_commands.proofs.carrying.ask_and_drive.Goals as goal

pub returns-in_err-ask_each-clause-goes : goal.returns-in_err-ask_each-clause-goes
returns-in_err-ask_each-clause-goes g c = λ store over.
    rw (error_is c.from_residual.result _ c.from_residual.ensures.1)
    (moves_map
    (λ old new asks. follows_stop (requests c.args.asks.now) (λ W done. HoldsAll W c.ask_each.new.core) store c.in_err-ask_each.field-0.0 c.args.core.now
    c.ask_each.new.core
    _ _ old new over.state over.image refl asks)
    c.in_err-ask_each.ensures.asks)

pub returns-clause-goes : goal.returns-clause-goes
returns-clause-goes g c = λ store over.
    moves_then
    (λ old mid new asks turns. follows_driven (requests c.args.asks.now) store c.drive.result (core_state c.ask_each.new.core).job c.drive.new.core
    _ _ old new c.drive.ensures.drives c.drive.ensures.calm
    (ends_from (requests c.args.asks.now) store c.args.core.now c.ask_each.new.core c.drive.new.core _ _ _ old mid new over.state over.image refl asks turns))
    c.in_ok-ask_each.ensures.asks c.drive.ensures.turns
