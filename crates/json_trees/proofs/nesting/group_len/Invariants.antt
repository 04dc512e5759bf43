use Rattle.std.proofs.Common.{◌≡◌, take}
use Rattle.std.specs.List.{AllByRecursion}
use Rattle.std.specs.Map.{keys_of}
use Rattle.json_trees.specs.Nested.{name_of}
use Rattle.json_trees.proofs.nesting.group_len.Given as goal

abbrev pub invariant-loop-index : goal.invariant-loop-index
invariant-loop-index g l = AllByRecursion (λ key. name_of l.level key ≡ l.name) (keys_of (take l.index l.pairs))
