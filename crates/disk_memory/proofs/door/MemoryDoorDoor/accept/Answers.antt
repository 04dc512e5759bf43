use Rattle.std.proofs.Common.{◌∷◌, refl, rules}
use Rattle.disk_memory.proofs.Doors.{reverse-push}
use Rattle.disk_memory.proofs.door.MemoryDoorDoor.accept.Goals as goal

pub returns-clause-taken : goal.returns-clause-taken
returns-clause-taken c = record {
  counted = search rules;
  failed = search rules;
  failing = search rules;
  next = λ is. (
    c.in-Some.input,
    c.new.result,
    reverse-push c.pop.new.self.items c.args.self.now.waiting.items c.in-Some.input (search rules),
    refl,
    c.new.ensures.planned,
    λ i. c.new.ensures.exchange i ∷ c.in-Ok.ensures.ok i,
  );
  none = λ is. cc;
  same = λ other. absurd (other refl);
}
