use Rattle.std.proofs.Common.{Ok, Err, refl, ap}
use Rattle.command_outcome.specs.declared.refusal.Refusal.{Refusal}
use Rattle.core_commands.proofs.Verifications.{states_quiet, opening_quiet}
use Rattle.core_commands.proofs.verifying.verify.Goals as goal

pub returns-in-Ok-clause-verified : goal.returns-in-Ok-clause-verified
returns-in-Ok-clause-verified g c = record {
  opening = Ok c.in-Ok.store;
  between = g.D.Disk.told c.open_store.new.disk;
  opens = c.in-Ok.ensures.opens;
  follows = c.verify_open.ensures.verifies;
  same = c.verify_open.ensures.same;
}

pub returns-in-Err-clause-verified : goal.returns-in-Err-clause-verified
returns-in-Err-clause-verified g c = record {
  opening = Err c.in-Err.error;
  between = g.D.Disk.told c.open_store.new.disk;
  opens = c.in-Err.ensures.opens;
  follows = ap (λ (r : Refusal). Err r) c.not_opened.ensures;
  same = refl;
}

pub returns-in-Ok-clause-quiet : goal.returns-in-Ok-clause-quiet
returns-in-Ok-clause-quiet g c count = states_quiet c.verify_open.result count c.verify_open.ensures.of_states

pub returns-in-Err-clause-quiet : goal.returns-in-Err-clause-quiet
returns-in-Err-clause-quiet g c count = rw c.not_opened.ensures (opening_quiet c.in-Err.error count)
