use Rattle.std.proofs.Common.{◌≡◌, take}
use Rattle.api_core.specs.Gathered.{all_named}
use Rattle.api_core.proofs.named_values.gather.Given as goal

abbrev pub invariant-loop-name : goal.invariant-loop-name
invariant-loop-name l = l.map ≡ all_named l.live.values l.first (take l.name-index l.names)
