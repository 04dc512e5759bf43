use Rattle.std.specs.FinMap.{entries}
use Rattle.std.proofs.Common.{◌∙◌}
use Rattle.opening_step.proofs.AddedKeys.{added_flat, added_rise}
use Rattle.opening_step.proofs.entries.added_keys.Goals as goal

pub of-requires : goal.of-requires
of-requires c = added_rise c.in_ok-added_list.field-0.items c.args.defaults.now.values c.args.live.now.values c.in_ok-added_list.ensures

pub returns : goal.returns
returns c = c.of.ensures ∙ c.in_ok-added_list.ensures ∙ added_flat c.args.live.now.values (entries c.args.defaults.now.values)
