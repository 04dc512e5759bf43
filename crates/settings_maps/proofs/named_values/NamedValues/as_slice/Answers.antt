use Rattle.std.proofs.Common.{◌∙◌}
use Rattle.key_names.specs.Order.{bytes_total}
use Rattle.settings_maps.proofs.SortedEntries.{entries_seen}
use Rattle.settings_maps.proofs.named_values.NamedValues.as_slice.Goals as goal

pub returns : goal.returns
returns c = c.as_slice.ensures.value ∙ entries_seen bytes_total c.self.inside.entries.items c.args.self.now c.self.view_is c.self.invariant
