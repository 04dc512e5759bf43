use Rattle.std.proofs.Common.{◌≡◌, ◌++◌}
use Rattle.std.specs.List.{flat_map}
use Rattle.std.specs.FinMap.{entries}
use Rattle.opening_step.specs.Entries.{key_entries}
use Rattle.opening_step.proofs.entries.set_metadata.Given as goal

-- what the entries that are left give is to be added
abbrev pub invariant-loop-key : goal.invariant-loop-key
invariant-loop-key l = l.entries.items ++ flat_map (key_entries l.live.metadata) l.key-iterator
    ≡ l.initial.entries.items ++ flat_map (key_entries l.live.metadata) (entries l.image.metadata)
