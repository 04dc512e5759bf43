use Rattle.std.proofs.Common.{◌≡◌, drop}
use Rattle.metadata_links.specs.Faults.{empty_commands, empty_from}
use Rattle.metadata_links.proofs.service_links.check_commands.Given as goal

abbrev pub invariant-loop-index : goal.invariant-loop-index
invariant-loop-index l = empty_from l.service l.index (drop l.index l.commands) ≡ empty_commands l.service l.commands
