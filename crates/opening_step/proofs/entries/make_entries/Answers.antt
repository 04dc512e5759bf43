use Rattle.std.proofs.Common.{rules}
use Rattle.opening_step.proofs.AddedKeys.{added_rise}
use Rattle.opening_step.proofs.OpenedEntries.{entries_made}
use Rattle.opening_step.proofs.entries.make_entries.Goals as goal

pub of-added-requires : goal.of-added-requires
of-added-requires c = added_rise c.in_ok-added_list.field-0.items c.args.defaults.now.values c.args.held.now.live.values c.in_ok-added_list.ensures

pub returns-clause-made : goal.returns-clause-made
returns-clause-made c = search (rules, entries_made)
