use Rattle.std.proofs.Common.{◌≡◌, ◌≤◌, length}
use Rattle.metadata_links.specs.Nearest.{greatest, has_list, near_len}
use Rattle.api_core.proofs.nearest.nearest.Given as goal

abbrev pub invariant-loop-len : goal.invariant-loop-len
invariant-loop-len l = record { within : l.len ≤ length l.key; so_far : greatest (has_list l.index l.key) l.len ≡ near_len l.index l.key }

abbrev pub decreases-loop-len : goal.decreases-loop-len
decreases-loop-len l = l.len
