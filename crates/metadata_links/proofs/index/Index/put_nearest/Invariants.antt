use Rattle.std.proofs.Common.{◌≡◌, ◌≤◌, drop, fold}
use Rattle.std.specs.List.{flat_map}
use Rattle.metadata_links.specs.Nearest.{near, all_steps, stepped}
use Rattle.metadata_links.specs.Rising.{with_member}
use Rattle.metadata_links.proofs.index.Index.put_nearest.Given as goal

abbrev pub invariant-loop-key : goal.invariant-loop-key
invariant-loop-key l = record {
  named : fold with_member l.services (flat_map (near l.self) (drop l.key-index l.keys)) ≡ fold with_member l.initial.services (flat_map (near l.self) l.keys);
  counted : stepped l.probes (all_steps l.self (drop l.key-index l.keys)) ≡ stepped l.initial.probes (all_steps l.self l.keys);
  kept : l.initial.probes ≤ l.probes;
}
