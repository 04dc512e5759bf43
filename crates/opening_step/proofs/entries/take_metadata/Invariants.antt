use Rattle.std.proofs.Common.{◌≡◌, ◌++◌}
use Rattle.std.specs.List.{flat_map}
use Rattle.std.specs.FinMap.{entries}
use Rattle.opening_step.specs.Entries.{gone_key_entries}
use Rattle.opening_step.proofs.entries.take_metadata.Given as goal

-- what the entries that are left give is to be added
abbrev pub invariant-loop-key : goal.invariant-loop-key
invariant-loop-key l = l.entries.items ++ flat_map (gone_key_entries l.image.metadata) l.key-iterator
    ≡ l.initial.entries.items ++ flat_map (gone_key_entries l.image.metadata) (entries l.live.metadata)
