use Rattle.std.proofs.Common.{ℕ, Result, Ok, Err, false, refl, sym, ap, subst}
use Rattle.outside.proofs.Told.{moves_map}
use Rattle.outside.specs.Told.{Moves}
use Rattle.store_open.specs.Opening.{Opens}
use Rattle.store_open.specs.declared.opened.Opened.{Opened}
use Rattle.store_open.specs.declared.open_error.OpenError.{OpenError}
use Rattle.command_outcome.specs.declared.refusal.Refusal.{Refusal}
use Rattle.api_server.specs.Causes.{fault_counts}
use Rattle.settings_cmd.proofs.Servings.{serves_store}
use Rattle.settings_cmd.proofs.serving.serve_store.Goals as goal

pub returns-in-Ok-clause-served : goal.returns-in-Ok-clause-served
returns-in-Ok-clause-served g c = record {
  opening = Ok c.in-Ok.store;
  fine = c.serve_open-fine.result;
  between = g.D.Disk.told c.open_store.new.disk;
  opens = subst (λ (r : Result Opened OpenError). Moves (g.D.Disk.told c.args.disk.now) (g.D.Disk.told c.open_store.new.disk) (Opens c.args.boot r)) c.in-Ok.is
      c.open_store.ensures.opens;
  follows = (
    c.ended.ensures,
    moves_map
        (λ old new serves. serves_store c.args.boot c.args.pace c.serve_open-fine.result c.in-Ok.store c.new-core.result c.serve_open-fine.new.core
        _ _ _ _ _ _ _ old new c.new-core.ensures.state c.new-core.ensures.image
        (ap (λ (d : ℕ). fault_counts d (g.S.Spawner.faults c.args.spawner.now)) (sym c.in-Ok.ensures.cause.kept)) c.args.quiet _ _ serves)
        c.serve_open-fine.ensures.serves,
  );
}

pub returns-in-Err-clause-served : goal.returns-in-Err-clause-served
returns-in-Err-clause-served g c = record {
  opening = Err c.in-Err.error;
  fine = false;
  between = g.D.Disk.told c.open_store.new.disk;
  opens = subst (λ (r : Result Opened OpenError). Moves (g.D.Disk.told c.args.disk.now) (g.D.Disk.told c.open_store.new.disk) (Opens c.args.boot r)) c.in-Err.is
      c.open_store.ensures.opens;
  follows = (ap (λ (r : Refusal). Err r) c.not_opened.ensures, refl, refl, refl, refl);
}
