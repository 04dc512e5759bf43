use Rattle.std.proofs.Common.{◌∙◌, ap}
use Rattle.outside.specs.Names.{Names}
use Rattle.settings_machine.specs.Step.{with_file}
use Rattle.settings_machine.specs.World.{World, Files, Failed}
use Rattle.settings_machine.specs.declared.cause.Cause.TheVariants.{Disk}
use Rattle.plain_machine.specs.Worlds.{world_of}
use Rattle.plain_machine.proofs.TurnsMade.{path_same}
use Rattle.plain_machine.proofs.machine.PlainMachine.leave.Goals as goal

pub returns-clause-turned : goal.returns-clause-turned
returns-clause-turned c = λ I w more holds running files.
    let W : World = world_of c.args.self.now in
    ap (λ (m : Files). record W { job = Failed Disk; etc = m }) (c.in_ok-set_file.ensures.ok
    ∙ ap (λ (p : Names). with_file W.etc p c.args.left) (c.in_ok-path.ensures ∙ path_same I c.args.image.now holds c.args.file.now))
