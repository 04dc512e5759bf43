use Rattle.std.proofs.Common.{◌≡◌, ◌++◌}
use Rattle.std.specs.List.{flat_map}
use Rattle.std.specs.FinMap.{entries}
use Rattle.opening_step.specs.Entries.{gone_entries}
use Rattle.opening_step.proofs.entries.take_values.Given as goal

-- what the entries that are left give is to be added
abbrev pub invariant-loop-key : goal.invariant-loop-key
invariant-loop-key l = l.entries.items ++ flat_map (λ e. gone_entries l.image.values e.0) l.key-iterator
    ≡ l.initial.entries.items ++ flat_map (λ e. gone_entries l.image.values e.0) (entries l.live.values)
