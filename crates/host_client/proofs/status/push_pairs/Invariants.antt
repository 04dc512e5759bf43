use Rattle.std.proofs.Common.{◌≡◌, ◌++◌, drop, map}
use Rattle.std.specs.List.{flat_map}
use Rattle.serde_json.specs.View.{view}
use Rattle.host_client.specs.Lines.{pending_line}
use Rattle.host_client.proofs.status.push_pairs.Given as goal

-- the pairs that are left are to be added to the lines so far
abbrev pub invariant-loop-pair : goal.invariant-loop-pair
invariant-loop-pair l =
    l.lines.items ++ flat_map (pending_line l.tx) (map view (drop l.pair-index l.pairs))
    ≡ l.initial.lines.items ++ flat_map (pending_line l.tx) (map view l.pairs)
