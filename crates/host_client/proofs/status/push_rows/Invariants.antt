use Rattle.std.proofs.Common.{◌≡◌, ◌++◌, drop, map}
use Rattle.std.specs.List.{flat_map}
use Rattle.serde_json.specs.View.{view}
use Rattle.host_client.specs.Lines.{tx_lines}
use Rattle.host_client.proofs.status.push_rows.Given as goal

-- the rows that are left are to be added to the lines so far
abbrev pub invariant-loop-row : goal.invariant-loop-row
invariant-loop-row l = l.lines.items ++ flat_map tx_lines (map view (drop l.row-index l.rows)) ≡ l.initial.lines.items ++ flat_map tx_lines (map view l.rows)
