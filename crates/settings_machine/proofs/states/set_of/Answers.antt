use Rattle.std.proofs.Common.{arith, ◌≡◌, suc, length, ap}
use Rattle.std.specs.Vec.Iter.{into_iter_items}
use Rattle.settings_machine.proofs.Naming.{one_more}
use Rattle.settings_machine.proofs.states.set_of.Goals as goal

pub loop-name-preserved : goal.loop-name-preserved
loop-name-preserved c =
    let first : length (into_iter_items c.loop-name.name-iterator) ≡ suc (length (into_iter_items c.next.new.self)) = ap length c.in-Some.ensures.steps.0 in
    record {
      can_next = tt;
      is_finite = tt;
      names = one_more _ _ _ _ _ _ c.loop-name.invariant.names c.in-Some.ensures.steps.0 c.in_ok-insert.ensures.updates;
      left = grind arith;
    }
