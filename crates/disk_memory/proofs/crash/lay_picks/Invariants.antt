use Rattle.std.proofs.Common.{◌≡◌}
use Rattle.std.specs.Prelude.{option_map}
use Rattle.std.specs.BTreeMap.{get}
use Rattle.std.specs.Slice.Iter.{iter_rest}
use Rattle.outside.specs.Names.{Names, path_cmp}
use Rattle.disk_memory.specs.Nodes.{node_of}
use Rattle.disk_memory.proofs.Picks.{after_picks}
use Rattle.disk_memory.proofs.crash.lay_picks.Given as goal

abbrev pub invariant-loop-path : goal.invariant-loop-path
invariant-loop-path l = (q : Names) → after_picks l.path-iterator (iter_rest l.choices) (λ p. option_map node_of (get path_cmp l.nodes p)) q ≡ after_picks
    l.touches.entries l.picks (λ p. option_map node_of (get path_cmp l.initial.nodes p)) q
