use Rattle.std.proofs.Common.{inl, Ok, Err, refl, ap}
use Rattle.settings_cmd.proofs.provisioning.provision.Goals as goal

pub returns-in-Ok-clause-provided : goal.returns-in-Ok-clause-provided
returns-in-Ok-clause-provided g c =
    inl (record {
      opening = Ok c.in-Ok.store;
      between = g.D.Disk.told c.open_store.new.disk;
      opens = c.in-Ok.ensures.opens;
      follows =
          c.provide.ensures.provides;
    })

pub returns-in-Err-clause-provided : goal.returns-in-Err-clause-provided
returns-in-Err-clause-provided g c =
    inl (record {
      opening = Err c.in-Err.error;
      between = g.D.Disk.told c.open_store.new.disk;
      opens = c.in-Err.ensures.opens;
      follows =
          (ap (λ r. Err r) c.not_opened.ensures, refl);
    })
