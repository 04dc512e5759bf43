use Rattle.settings_maps.proofs.RisingKeys.{found_removed, not_found_stays, without_rises}
use Rattle.settings_maps.proofs.key_list.KeyList.remove.Goals as goal

pub returns-in-Ok : goal.returns-in-Ok
returns-in-Ok c = rw (← c.self.view_is) (found_removed c.self.inside.keys.items c.deref.result.now _ c.in-Ok.index c.args.key.now c.deref.ensures.value
    c.self.invariant c.remove.ensures.items c.in-Ok.ensures.bound c.in-Ok.ensures.ok)

pub returns-in_default : goal.returns-in_default
returns-in_default c = rw (← c.self.view_is) (not_found_stays c.self.inside.keys.items c.deref.result.now c.in_default.field-0 c.args.key.now
    c.deref.ensures.value c.self.invariant c.in_default.ensures.position)

pub invariant_of-self : goal.invariant_of-self
invariant_of-self c = without_rises c.self.inside.keys.items _ c.args.key.now c.self.invariant
    (found_removed c.self.inside.keys.items c.deref.result.now _ c.in-Ok.index c.args.key.now c.deref.ensures.value c.self.invariant c.remove.ensures.items
    c.in-Ok.ensures.bound c.in-Ok.ensures.ok)
