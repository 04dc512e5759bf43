-- A failure of the spawner is reported exactly where one was met.
use Rattle.std.proofs.Common.{arith, ◌≡◌, ◌≢◌, inl, inr, ℕ, List, Option, Ok, Err, refl, sym, ◌∙◌, ap}
use Rattle.std.specs.Result.{IsErrOf}
use Rattle.outside.specs.Faults.{Rose}
use Rattle.command_outcome.specs.Ends.{Outcome, status_in, Ends}
use Rattle.command_outcome.specs.Lines.{status_of}
use Rattle.command_outcome.specs.declared.refusal.Refusal.{Refusal}
use Rattle.command_outcome.specs.declared.refusal.Refusal.TheVariants as refused
use Rattle.core_commands.specs.Handing.{HasSpawnCause}
use Rattle.settings_cmd.proofs.Spawned.{same_error}

memory_status : (outcome : Outcome) → IsErrOf outcome refused.Memory → status_in outcome ≡ 1
memory_status (Ok text) is = absurd (cc is)
memory_status (Err refusal) is = ap status_of (same_error refusal refused.Memory is)

kept : (outcome : Outcome) (before now : ℕ) → HasSpawnCause before now outcome → (status_in outcome ≡ 5 → ⊥) → (status_in outcome ≡ 1 → ⊥) → now ≡ before
kept (Ok text) before now cause other serves = cause.kept (λ name is. cc is) (λ is. cc is)
kept (Err refusal) before now cause other serves =
    cause.kept (λ name is. other (ap status_of (same_error refusal (refused.Spawn name) is))) (λ is. serves (memory_status (Err refusal) is))

-- A run whose status tells of no failure of the spawner has met none.
pub unspawned : (outcome : Outcome) (status before now : ℕ) (s s' : Option (List ℕ)) → HasSpawnCause before now outcome → Ends outcome status s s' → status ≢ 1
    → status ≢ 5
    → status ≢ 12 → now ≡ before
unspawned outcome status before now s s' cause (inl (inl told)) not_1 not_5 not_12 =
    kept outcome before now cause (λ is. not_5 (told.0 ∙ is)) (λ is. not_1 (told.0 ∙ is))
unspawned outcome status before now s s' cause (inl (inr told)) not_1 not_5 not_12 = absurd (not_12 told.0)
unspawned outcome status before now s s' cause (inr told) not_1 not_5 not_12 = absurd (not_1 told.0)

-- No other refusal has the status of the spawner's.
spawn_alone : (refusal : Refusal) → status_of refusal ≡ 5 → (name : List ℕ) × (refusal ≡ refused.Spawn name)
spawn_alone refused.Memory is = absurd (omega (arith, is))
spawn_alone refused.Usage is = absurd (omega (arith, is))
spawn_alone refused.Disk is = absurd (omega (arith, is))
spawn_alone refused.Door is = absurd (omega (arith, is))
spawn_alone (refused.Spawn name) is = (name, refl)
spawn_alone refused.NoStore is = absurd (omega (arith, is))
spawn_alone (refused.Damaged path) is = absurd (omega (arith, is))
spawn_alone (refused.BadLink path) is = absurd (omega (arith, is))
spawn_alone (refused.BadJournal path) is = absurd (omega (arith, is))
spawn_alone (refused.BadImage file kind at) is = absurd (omega (arith, is))
spawn_alone (refused.IllTyped key) is = absurd (omega (arith, is))
spawn_alone (refused.NotCovered lines) is = absurd (omega (arith, is))
spawn_alone (refused.Render file error) is = absurd (omega (arith, is))
spawn_alone (refused.Status service number) is = absurd (omega (arith, is))
spawn_alone (refused.Missing at target) is = absurd (omega (arith, is))
spawn_alone (refused.Conflict key) is = absurd (omega (arith, is))
spawn_alone (refused.Refused refusal) is = absurd (omega (arith, is))
spawn_alone (refused.AlreadyThere version) is = absurd (omega (arith, is))
spawn_alone (refused.OldFormat directory) is = absurd (omega (arith, is))
spawn_alone (refused.GeneratorStatus key number) is = absurd (omega (arith, is))
spawn_alone (refused.GeneratorOutput key) is = absurd (omega (arith, is))
spawn_alone (refused.UserData kind at) is = absurd (omega (arith, is))
spawn_alone (refused.Dump kind at) is = absurd (omega (arith, is))
spawn_alone (refused.MigrationStatus name number) is = absurd (omega (arith, is))
spawn_alone (refused.MigrationOutput name) is = absurd (omega (arith, is))
spawn_alone (refused.NotCurrent lines) is = absurd (omega (arith, is))
spawn_alone (refused.HoldsIllTyped lines) is = absurd (omega (arith, is))
spawn_alone (refused.WouldNotRender lines) is = absurd (omega (arith, is))

rose : (outcome : Outcome) {P : Type 0} → ((name : List ℕ) → IsErrOf outcome (refused.Spawn name) → P) → status_in outcome ≡ 5 → P
rose (Ok text) failed is = absurd (omega (arith, is))
rose (Err refusal) failed is = let named = spawn_alone refusal is in failed named.0 (ap (λ (r : Refusal). Err r) named.1)

-- A run whose status tells of a failure of the spawner has met one.
pub spawned : (outcome : Outcome) (status before now : ℕ) (s s' : Option (List ℕ)) → ((name : List ℕ) → IsErrOf outcome (refused.Spawn name) → Rose before now)
    → Ends outcome status s s' → status ≡ 5 → Rose before now
spawned outcome status before now s s' failed (inl (inl told)) is = rose outcome failed (sym told.0 ∙ is)
spawned outcome status before now s s' failed (inl (inr told)) is = absurd (omega (arith, told.0, is))
spawned outcome status before now s s' failed (inr told) is = absurd (omega (arith, told.0, is))
