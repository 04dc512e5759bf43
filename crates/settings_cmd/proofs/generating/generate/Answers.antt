use Rattle.std.proofs.Common.{inl, Ok, Err, refl, ap}
use Rattle.settings_cmd.proofs.generating.generate.Goals as goal

pub returns-in-Ok-clause-generated : goal.returns-in-Ok-clause-generated
returns-in-Ok-clause-generated g c =
    inl (record {
      opening = Ok c.in-Ok.store;
      between = g.D.Disk.told c.open_store.new.disk;
      opens = c.in-Ok.ensures.opens;
      follows =
          c.generate_in.ensures.generates;
    })

pub returns-in-Err-clause-generated : goal.returns-in-Err-clause-generated
returns-in-Err-clause-generated g c =
    inl (record {
      opening = Err c.in-Err.error;
      between = g.D.Disk.told c.open_store.new.disk;
      opens = c.in-Err.ensures.opens;
      follows =
          (ap (λ r. Err r) c.not_opened.ensures, refl, refl);
    })
