use Rattle.std.proofs.Common.{◌≡◌, ◌++◌, length, map, filter}
use Rattle.std.specs.FinMap.{entries}
use Rattle.std.specs.Option.{option_copied}
use Rattle.settings_tree.specs.Walks.{entries_past}
use Rattle.api_core.specs.Gathered.{has_near, near_entry}
use Rattle.api_core.proofs.nearest.lists_of.Given as goal

-- the lists of the keys that are left are to be added
abbrev pub invariant-loop-key : goal.invariant-loop-key
invariant-loop-key l = map (λ e. (e.0, e.1.items)) l.lists.items ++ map (near_entry l.index)
    (filter (has_near l.index) (entries_past l.once (option_copied l.after)))
    ≡ map (near_entry l.index) (filter (has_near l.index) (entries l.once))

abbrev pub decreases-loop-key : goal.decreases-loop-key
decreases-loop-key l = length (entries_past l.once (option_copied l.after))
