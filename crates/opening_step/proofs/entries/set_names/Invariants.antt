use Rattle.std.proofs.Common.{◌≡◌, ◌++◌, take}
use Rattle.std.specs.List.{flat_map}
use Rattle.opening_step.specs.Entries.{name_entries}
use Rattle.opening_step.proofs.entries.set_names.Given as goal

-- what the names before this one give is there
abbrev pub invariant-loop-name : goal.invariant-loop-name
invariant-loop-name l = l.entries.items ≡ l.initial.entries.items
    ++ flat_map (name_entries l.live.metadata l.key) (take l.name-index l.name-items)
