use Rattle.std.proofs.Common.{◌≡◌, take}
use Rattle.settings_maps.proofs.named_values.copy_entries.Given as goal

abbrev pub invariant-loop-name : goal.invariant-loop-name
invariant-loop-name l = l.copies.items ≡ take l.name-index l.entries
