use Rattle.std.proofs.Common.{◌≡◌, ◌++◌, drop, map}
use Rattle.metadata_links.specs.Commands.{seen, commands_from}
use Rattle.metadata_links.proofs.manifest.push_commands.Given as goal

abbrev pub invariant-loop-index : goal.invariant-loop-index
invariant-loop-index l = map seen l.commands.items ++ commands_from l.name l.index (drop l.index l.texts) ≡ map seen l.initial.commands.items
    ++ commands_from l.name 0 l.texts
