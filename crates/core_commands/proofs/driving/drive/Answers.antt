use Rattle.std.proofs.Common.{rules, ◌≡◌, false}
use Rattle.outside.proofs.Told.{moves_stay}
use Rattle.settings_machine.specs.World.{is_running}
use Rattle.api_core.specs.Cores.{core_state}
use Rattle.core_commands.proofs.Following.{no_turns}
use Rattle.core_commands.proofs.driving.drive.Goals as goal

pub returns-then-not-is_running-clause-turns : goal.returns-then-not-is_running-clause-turns
returns-then-not-is_running-clause-turns g c =
    let still : is_running (core_state c.args.core.now).job ≡ false = search rules in
    moves_stay (λ h. no_turns c.args.core.now (g.S.Spawner.runs c.args.spawner.now) h still)
