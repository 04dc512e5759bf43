-- A failure of the disk is reported exactly where one was met.
use Rattle.std.proofs.Common.{arith, ◌≡◌, ◌≢◌, inl, inr, ℕ, List, Option, Ok, Err, refl, sym, ◌∙◌, ap}
use Rattle.std.specs.Result.{IsErrOf}
use Rattle.outside.specs.Faults.{HasCauseOf, Rose}
use Rattle.command_outcome.specs.Ends.{Outcome, status_in, Ends}
use Rattle.command_outcome.specs.Lines.{status_of}
use Rattle.command_outcome.specs.declared.refusal.Refusal.{Refusal}
use Rattle.command_outcome.specs.declared.refusal.Refusal.TheVariants as refused
use Rattle.settings_cmd.proofs.Spawned.{same_error}

-- Another refusal than that of the disk has another status.
by_disk : (refusal : Refusal) → (status_of refusal ≡ 3 → ⊥) → refusal ≡ refused.Disk → ⊥
by_disk refusal other is = other (ap status_of is)

kept : (outcome : Outcome) (before now : ℕ) → HasCauseOf refused.Disk before now outcome → (status_in outcome ≡ 3 → ⊥) → now ≡ before
kept (Ok text) before now cause other = cause.kept
kept (Err refusal) before now cause other = cause.other refl (λ is. by_disk refusal other (same_error refusal refused.Disk is))

-- A run whose status tells of no failure has met none.
pub unfaulted : (outcome : Outcome) (status before now : ℕ) (s s' : Option (List ℕ)) → HasCauseOf refused.Disk before now outcome → Ends outcome status s s'
    → status ≢ 1 → status ≢ 3 → status ≢ 12 → now ≡ before
unfaulted outcome status before now s s' cause (inl (inl told)) not_1 not_3 not_12 = kept outcome before now cause (λ is. not_3 (told.0 ∙ is))
unfaulted outcome status before now s s' cause (inl (inr told)) not_1 not_3 not_12 = absurd (not_12 told.0)
unfaulted outcome status before now s s' cause (inr told) not_1 not_3 not_12 = absurd (not_1 told.0)

-- No other refusal has the status of the disk's.
disk_alone : (refusal : Refusal) → status_of refusal ≡ 3 → refusal ≡ refused.Disk
disk_alone refused.Memory is = absurd (omega (arith, is))
disk_alone refused.Usage is = absurd (omega (arith, is))
disk_alone refused.Disk is = refl
disk_alone refused.Door is = absurd (omega (arith, is))
disk_alone (refused.Spawn name) is = absurd (omega (arith, is))
disk_alone refused.NoStore is = absurd (omega (arith, is))
disk_alone (refused.Damaged path) is = absurd (omega (arith, is))
disk_alone (refused.BadLink path) is = absurd (omega (arith, is))
disk_alone (refused.BadJournal path) is = absurd (omega (arith, is))
disk_alone (refused.BadImage file kind at) is = absurd (omega (arith, is))
disk_alone (refused.IllTyped key) is = absurd (omega (arith, is))
disk_alone (refused.NotCovered lines) is = absurd (omega (arith, is))
disk_alone (refused.Render file error) is = absurd (omega (arith, is))
disk_alone (refused.Status service number) is = absurd (omega (arith, is))
disk_alone (refused.Missing at target) is = absurd (omega (arith, is))
disk_alone (refused.Conflict key) is = absurd (omega (arith, is))
disk_alone (refused.Refused refusal) is = absurd (omega (arith, is))
disk_alone (refused.AlreadyThere version) is = absurd (omega (arith, is))
disk_alone (refused.OldFormat directory) is = absurd (omega (arith, is))
disk_alone (refused.GeneratorStatus key number) is = absurd (omega (arith, is))
disk_alone (refused.GeneratorOutput key) is = absurd (omega (arith, is))
disk_alone (refused.UserData kind at) is = absurd (omega (arith, is))
disk_alone (refused.Dump kind at) is = absurd (omega (arith, is))
disk_alone (refused.MigrationStatus name number) is = absurd (omega (arith, is))
disk_alone (refused.MigrationOutput name) is = absurd (omega (arith, is))
disk_alone (refused.NotCurrent lines) is = absurd (omega (arith, is))
disk_alone (refused.HoldsIllTyped lines) is = absurd (omega (arith, is))
disk_alone (refused.WouldNotRender lines) is = absurd (omega (arith, is))

rose : (outcome : Outcome) {P : Type 0} → (IsErrOf outcome refused.Disk → P) → status_in outcome ≡ 3 → P
rose (Ok text) failed is = absurd (omega (arith, is))
rose (Err refusal) failed is = failed (ap (λ (r : Refusal). Err r) (disk_alone refusal is))

-- A run whose status tells of a failure of the disk has met one.
pub faulted : (outcome : Outcome) (status before now : ℕ) (s s' : Option (List ℕ)) → (IsErrOf outcome refused.Disk → Rose before now) → Ends outcome status s s'
    → status ≡ 3
    → Rose before now
faulted outcome status before now s s' failed (inl (inl told)) is = rose outcome failed (sym told.0 ∙ is)
faulted outcome status before now s s' failed (inl (inr told)) is = absurd (omega (arith, told.0, is))
faulted outcome status before now s s' failed (inr told) is = absurd (omega (arith, told.0, is))
