use Rattle.std.proofs.Common.{sym}
use Rattle.settings_maps.proofs.SortedEntries.{get_missing, remove_missing, rises_removed}
use Rattle.settings_maps.proofs.named_values.NamedValues.take.Goals as goal

pub invariant_of-self : goal.invariant_of-self
invariant_of-self c = rises_removed c.self.inside.entries.items c.deref.result.now c.in-Ok.index c.args.name.now c.self.invariant c.deref.ensures.value _
    c.in-Ok.ensures.found c.remove-value.ensures.items

pub returns-in-Err-clause-value : goal.returns-in-Err-clause-value
returns-in-Err-clause-value c = sym (get_missing c.self.inside.entries.items c.deref.result.now c.in-Err.field-0 c.args.name.now c.self.invariant
    c.deref.ensures.value c.args.self.now c.self.view_is c.in-Err.ensures.missing)

pub returns-in-Err-clause-gone : goal.returns-in-Err-clause-gone
returns-in-Err-clause-gone c = remove_missing c.self.inside.entries.items c.deref.result.now c.in-Err.field-0 c.args.name.now c.self.invariant
    c.deref.ensures.value c.args.self.now c.self.view_is c.in-Err.ensures.missing
