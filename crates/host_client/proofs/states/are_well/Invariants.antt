use Rattle.std.proofs.Common.{◌≡◌}
use Rattle.serde_json.specs.View.{members_view}
use Rattle.host_client.specs.Lines.{are_well}
use Rattle.host_client.proofs.states.are_well.Given as goal

-- the files that are left decide
abbrev pub invariant-loop-value : goal.invariant-loop-value
invariant-loop-value l = are_well (members_view l.value-iterator) ≡ are_well (members_view l.files.entries)
