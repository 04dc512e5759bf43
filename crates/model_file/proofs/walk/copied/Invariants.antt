use Rattle.std.proofs.Common.{◌≡◌, take}
use Rattle.model_file.proofs.walk.copied.Given as goal

abbrev pub invariant-loop-name : goal.invariant-loop-name
invariant-loop-name l = l.copy.items ≡ take l.name-index l.path
