use Rattle.std.proofs.Common.{◌≡◌, ◌≤◌, ◌-◌, length}
use Rattle.metadata_links.specs.Nearest.{greatest, has_list, near_len, stepped}
use Rattle.metadata_links.proofs.index.Index.nearest.Given as goal

abbrev pub invariant-loop-len : goal.invariant-loop-len
invariant-loop-len l = record {
  within : l.len ≤ length l.key;
  so_far : greatest (has_list l.self l.key) l.len ≡ near_len l.self l.key;
  counted : l.probes ≡ stepped l.initial.probes (length l.key - l.len);
}

abbrev pub decreases-loop-len : goal.decreases-loop-len
decreases-loop-len l = l.len
