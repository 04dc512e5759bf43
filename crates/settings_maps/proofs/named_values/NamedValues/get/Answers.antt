use Rattle.std.proofs.Common.{sym}
use Rattle.settings_maps.proofs.SortedEntries.{get_missing}
use Rattle.settings_maps.proofs.named_values.NamedValues.get.Goals as goal

pub returns-in-Err : goal.returns-in-Err
returns-in-Err c = sym (get_missing c.self.inside.entries.items c.deref.result.now c.in-Err.field-0 c.args.name.now c.self.invariant c.deref.ensures.value
    c.args.self.now c.self.view_is c.in-Err.ensures.missing)
