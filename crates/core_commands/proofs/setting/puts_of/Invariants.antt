use Rattle.std.proofs.Common.{◌≡◌, take}
use Rattle.core_commands.specs.Carried.{puts_of}
use Rattle.core_commands.proofs.setting.puts_of.Given as goal

abbrev pub invariant-loop-key : goal.invariant-loop-key
invariant-loop-key l = l.puts.items ≡ puts_of (take l.key-index l.pairs)
