use Rattle.std.proofs.Common.{◌≡◌, fold}
use Rattle.std.specs.FinMap.{empty, from_entries}
use Rattle.key_names.specs.Order.{bytes_cmp}
use Rattle.metadata_links.specs.Gathered.{with_value}
use Rattle.metadata_links.proofs.fields.gather.Given as goal

abbrev pub invariant-loop-key : goal.invariant-loop-key
invariant-loop-key l = from_entries {R = bytes_cmp} l.found.entries ≡ fold (with_value l.one l.other) empty l.yielded
