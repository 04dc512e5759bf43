use Rattle.std.proofs.Common.{◌≡◌, ◌++◌}
use Rattle.std.specs.List.{flat_map}
use Rattle.std.specs.FinMap.{entries}
use Rattle.opening_step.specs.Entries.{added_key}
use Rattle.opening_step.proofs.entries.added_list.Given as goal

-- what the entries that are left give is to be added
abbrev pub invariant-loop-key : goal.invariant-loop-key
invariant-loop-key l = l.keys.items ++ flat_map (λ e. added_key l.live.values e.0) l.key-iterator
    ≡ flat_map (λ e. added_key l.live.values e.0) (entries l.image.values)
