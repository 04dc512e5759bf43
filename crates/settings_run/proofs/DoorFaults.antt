-- How a run ends by its status: well, or because of the door.
use Rattle.std.proofs.Common.{arith, ◌≡◌, inl, inr, ℕ, List, Option, Ok, Err, IsOk, refl, sym, ◌∙◌, ap}
use Rattle.std.specs.Result.{IsErrOf}
use Rattle.outside.specs.Faults.{Rose}
use Rattle.command_outcome.specs.Ends.{Outcome, status_in, Ends}
use Rattle.command_outcome.specs.Lines.{status_of}
use Rattle.command_outcome.specs.declared.refusal.Refusal.{Refusal}
use Rattle.command_outcome.specs.declared.refusal.Refusal.TheVariants as refused

-- No other refusal has the status of the door's,
door_alone : (refusal : Refusal) → status_of refusal ≡ 4 → refusal ≡ refused.Door
door_alone refused.Memory is = absurd (omega (arith, is))
door_alone refused.Usage is = absurd (omega (arith, is))
door_alone refused.Disk is = absurd (omega (arith, is))
door_alone refused.Door is = refl
door_alone refused.NoStore is = absurd (omega (arith, is))
door_alone (refused.Damaged path) is = absurd (omega (arith, is))
door_alone (refused.BadLink path) is = absurd (omega (arith, is))
door_alone (refused.BadJournal path) is = absurd (omega (arith, is))
door_alone (refused.BadImage file kind at) is = absurd (omega (arith, is))
door_alone (refused.IllTyped key) is = absurd (omega (arith, is))
door_alone (refused.NotCovered lines) is = absurd (omega (arith, is))
door_alone (refused.Render file error) is = absurd (omega (arith, is))
door_alone (refused.Status service number) is = absurd (omega (arith, is))
door_alone (refused.Missing at target) is = absurd (omega (arith, is))
door_alone (refused.Conflict key) is = absurd (omega (arith, is))
door_alone (refused.Refused refusal) is = absurd (omega (arith, is))
door_alone (refused.AlreadyThere version) is = absurd (omega (arith, is))
door_alone (refused.OldFormat directory) is = absurd (omega (arith, is))
door_alone (refused.GeneratorStatus key number) is = absurd (omega (arith, is))
door_alone (refused.GeneratorOutput key) is = absurd (omega (arith, is))
door_alone (refused.UserData kind at) is = absurd (omega (arith, is))
door_alone (refused.Dump kind at) is = absurd (omega (arith, is))
door_alone (refused.MigrationStatus name number) is = absurd (omega (arith, is))
door_alone (refused.MigrationOutput name) is = absurd (omega (arith, is))
door_alone (refused.NotCurrent lines) is = absurd (omega (arith, is))
door_alone (refused.HoldsIllTyped lines) is = absurd (omega (arith, is))
door_alone (refused.WouldNotRender lines) is = absurd (omega (arith, is))
door_alone (refused.Spawn name) is = absurd (omega (arith, is))

rose : (outcome : Outcome) {P : Type 0} → (IsErrOf outcome refused.Door → P) → status_in outcome ≡ 4 → P
rose (Ok text) failed is = absurd (omega (arith, is))
rose (Err refusal) failed is = failed (ap (λ (r : Refusal). Err r) (door_alone refusal is))

-- A run whose status tells of a failure of the door has met one.
pub door_failed : (outcome : Outcome) (status before now : ℕ) (s s' : Option (List ℕ)) → (IsErrOf outcome refused.Door → Rose before now)
    → Ends outcome status s s' → status ≡ 4
    → Rose before now
door_failed outcome status before now s s' failed (inl (inl told)) is = rose outcome failed (sym told.0 ∙ is)
door_failed outcome status before now s s' failed (inl (inr told)) is = absurd (omega (arith, told.0, is))
door_failed outcome status before now s s' failed (inr told) is = absurd (omega (arith, told.0, is))

-- and none has that of a command that was done.
not_done : (refusal : Refusal) → status_of refusal ≡ 0 → ⊥
not_done refused.Memory is = omega (arith, is)
not_done refused.Usage is = omega (arith, is)
not_done refused.Disk is = omega (arith, is)
not_done refused.Door is = omega (arith, is)
not_done refused.NoStore is = omega (arith, is)
not_done (refused.Damaged path) is = omega (arith, is)
not_done (refused.BadLink path) is = omega (arith, is)
not_done (refused.BadJournal path) is = omega (arith, is)
not_done (refused.BadImage file kind at) is = omega (arith, is)
not_done (refused.IllTyped key) is = omega (arith, is)
not_done (refused.NotCovered lines) is = omega (arith, is)
not_done (refused.Render file error) is = omega (arith, is)
not_done (refused.Status service number) is = omega (arith, is)
not_done (refused.Missing at target) is = omega (arith, is)
not_done (refused.Conflict key) is = omega (arith, is)
not_done (refused.Refused refusal) is = omega (arith, is)
not_done (refused.AlreadyThere version) is = omega (arith, is)
not_done (refused.OldFormat directory) is = omega (arith, is)
not_done (refused.GeneratorStatus key number) is = omega (arith, is)
not_done (refused.GeneratorOutput key) is = omega (arith, is)
not_done (refused.UserData kind at) is = omega (arith, is)
not_done (refused.Dump kind at) is = omega (arith, is)
not_done (refused.MigrationStatus name number) is = omega (arith, is)
not_done (refused.MigrationOutput name) is = omega (arith, is)
not_done (refused.NotCurrent lines) is = omega (arith, is)
not_done (refused.HoldsIllTyped lines) is = omega (arith, is)
not_done (refused.WouldNotRender lines) is = omega (arith, is)
not_done (refused.Spawn name) is = omega (arith, is)

fine : (outcome : Outcome) → status_in outcome ≡ 0 → IsOk outcome
fine (Ok text) is = refl
fine (Err refusal) is = absurd (not_done refusal is)

-- A run with exit status 0 is one whose command was done.
pub ended_well : (outcome : Outcome) (status : ℕ) (s s' : Option (List ℕ)) → Ends outcome status s s' → status ≡ 0 → IsOk outcome
ended_well outcome status s s' (inl (inl told)) is = fine outcome (sym told.0 ∙ is)
ended_well outcome status s s' (inl (inr told)) is = absurd (omega (arith, told.0, is))
ended_well outcome status s s' (inr told) is = absurd (omega (arith, told.0, is))
