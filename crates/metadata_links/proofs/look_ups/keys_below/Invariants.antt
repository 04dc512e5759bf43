use Rattle.std.proofs.Common.{◌≡◌, ◌++◌, drop}
use Rattle.metadata_links.specs.Nearest.{keys_past}
use Rattle.metadata_links.proofs.look_ups.keys_below.Given as goal

abbrev pub invariant-loop-key : goal.invariant-loop-key
invariant-loop-key l = l.keys.items ++ keys_past l.path (drop l.key-index l.entries) ≡ keys_past l.path l.entries
