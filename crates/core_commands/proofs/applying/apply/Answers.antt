use Rattle.std.proofs.Common.{List, subst}
use Rattle.settings_machine.specs.Requests.{Request}
use Rattle.core_commands.specs.Carried.{CarriesOut}
use Rattle.core_commands.specs.Lines.{IsJobLine}
use Rattle.core_commands.proofs.applying.apply.Goals as goal

pub returns-clause-carried : goal.returns-clause-carried
returns-clause-carried g c =
    subst (λ (qs : List Request). CarriesOut qs IsJobLine c.carry_and_tell.result (g.S.Spawner.runs c.args.spawner.now)
    (g.S.Spawner.runs c.carry_and_tell.new.spawner)
    (g.D.Disk.told c.args.disk.now) (g.D.Disk.told c.carry_and_tell.new.disk)) c.apply_ask.ensures.request c.carry_and_tell.ensures.carries
