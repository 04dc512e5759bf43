use Rattle.std.proofs.Common.{Ok, Err, refl, ap}
use Rattle.command_outcome.specs.declared.refusal.Refusal.{Refusal}
use Rattle.core_commands.proofs.carrying.carry.Goals as goal

pub returns-in-Ok-clause-carries : goal.returns-in-Ok-clause-carries
returns-in-Ok-clause-carries g c = record {
  opening = Ok c.in-Ok.store;
  between = g.D.Disk.told c.open_store.new.disk;
  opens = c.in-Ok.ensures.opens;
  follows = c.go_on.ensures.goes;
}

pub returns-in-Err-clause-carries : goal.returns-in-Err-clause-carries
returns-in-Err-clause-carries g c = record {
  opening = Err c.in-Err.error;
  between = g.D.Disk.told c.open_store.new.disk;
  opens = c.in-Err.ensures.opens;
  follows = (ap (λ (r : Refusal). Err r) c.not_opened.ensures, refl, refl);
}
