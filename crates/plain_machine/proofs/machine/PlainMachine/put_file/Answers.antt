use Rattle.std.proofs.Common.{ℕ, List, ◌∙◌, ap}
use Rattle.std.specs.FinMap.{insert}
use Rattle.outside.specs.Names.{Names}
use Rattle.settings_machine.specs.World.{World}
use Rattle.plain_machine.specs.Worlds.{world_of}
use Rattle.plain_machine.proofs.TurnsMade.{written_is, path_same}
use Rattle.plain_machine.proofs.machine.PlainMachine.put_file.Goals as goal

pub returns-clause-written : goal.returns-clause-written
returns-clause-written c = λ I w more holds running files.
    let W : World = world_of c.args.self.now in
    written_is I W c.args.file.now w more _ _ c.args.bytes.items c.pass_file.ensures running files
    (c.in_ok-set_file.ensures.ok ∙ ap (λ (b : List ℕ). insert W.etc c.in_ok-path.path b) c.of.ensures
    ∙ ap (λ (p : Names). insert W.etc p c.args.bytes.items) (c.in_ok-path.ensures ∙ path_same I c.args.image.now holds c.args.file.now))
