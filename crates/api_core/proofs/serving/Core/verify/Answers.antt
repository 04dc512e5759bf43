use Rattle.std.proofs.Common.{◌≡◌, true, ap}
use Rattle.outside.proofs.Told.{moves_same}
use Rattle.settings_machine.specs.World.{Job}
use Rattle.settings_machine.specs.Step.{failing}
use Rattle.settings_machine.specs.declared.cause.Cause.TheVariants as cause
use Rattle.affected_apply.specs.Jobs.{job_of}
use Rattle.machine_disk.specs.Kept.{CoreState}
use Rattle.api_core.specs.Cores.{core_state}
use Rattle.api_core.specs.declared.serving.Core.{Core}
use Rattle.api_core.proofs.Verifications.{told_answered, verifies_none, verifies_failed}
use Rattle.api_core.proofs.serving.Core.verify.Goals as goal

pub returns-in-Ok-clause-verifies : goal.returns-in-Ok-clause-verifies
returns-in-Ok-clause-verifies g c =
    told_answered c.args.self.now c.in-Ok.files.items _ _ c.requires.calm c.all_verified.ensures.same c.in-Ok.ensures.verified

pub returns-in-Err-Memory-clause-verifies : goal.returns-in-Err-Memory-clause-verifies
returns-in-Err-Memory-clause-verifies g c = moves_same c.all_verified.ensures.same (λ h. verifies_none c.args.self.now h c.requires.calm)

pub returns-in-Err-Failed-clause-verifies : goal.returns-in-Err-Failed-clause-verifies
returns-in-Err-Failed-clause-verifies g c =
    let old = c.args.self.now in
    let now : Core = record { place = old.place; held = old.held; image = old.image; job = c.fail.new.job; faulted = true } in
    let is : core_state now ≡ record (core_state old) { job = failing (job_of old.job) cause.Disk; faulted = true } =
    ap (λ (j : Job). let s : CoreState = record (core_state old) { job = j; faulted = true } in s) c.fail.ensures in
    moves_same c.all_verified.ensures.same (λ h. verifies_failed old now h c.requires.calm is)
