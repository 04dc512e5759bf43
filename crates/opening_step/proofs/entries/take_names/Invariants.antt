use Rattle.std.proofs.Common.{◌≡◌, ◌++◌, take}
use Rattle.std.specs.List.{flat_map}
use Rattle.opening_step.specs.Entries.{gone_name_entries}
use Rattle.opening_step.proofs.entries.take_names.Given as goal

-- what the names before this one give is there
abbrev pub invariant-loop-name : goal.invariant-loop-name
invariant-loop-name l = l.entries.items ≡ l.initial.entries.items
    ++ flat_map (λ n. gone_name_entries l.image.metadata l.key n.0) (take l.name-index l.name-items)
