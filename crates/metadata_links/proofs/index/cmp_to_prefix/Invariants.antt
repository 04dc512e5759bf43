use Rattle.std.proofs.Common.{◌≡◌, drop, take}
use Rattle.key_names.specs.Order.{key_cmp}
use Rattle.metadata_links.proofs.index.cmp_to_prefix.Given as goal

abbrev pub invariant-loop-i : goal.invariant-loop-i
invariant-loop-i l = key_cmp (drop l.i l.own) (drop l.i (take l.len l.key)) ≡ key_cmp l.own (take l.len l.key)
