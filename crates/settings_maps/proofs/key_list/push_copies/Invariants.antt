use Rattle.std.proofs.Common.{◌≡◌, ◌++◌, take}
use Rattle.settings_maps.proofs.key_list.push_copies.Given as goal

abbrev pub invariant-loop-key : goal.invariant-loop-key
invariant-loop-key l = l.all.items ≡ l.fn.all.items ++ take l.key-index l.keys
