-- What a refusal tells of the spawner and of the door.
use Rattle.std.proofs.Common.{arith, ◌≡◌, ℕ, Ok, Err, refl, subst}
use Rattle.std.specs.Prelude.{IfErr}
use Rattle.std.specs.Result.{IsErrOf}
use Rattle.migrate_chain.specs.Causes.{HasNamedCause}
use Rattle.command_outcome.specs.Ends.{Outcome}
use Rattle.command_outcome.specs.declared.refusal.Refusal.{Refusal}
use Rattle.command_outcome.specs.declared.refusal.Refusal.TheVariants as refused
use Rattle.core_commands.specs.Handing.{HasSpawnCause}
use Rattle.settings_cmd.specs.Checks.{IsOfCheck}

-- Two errors of one outcome are one refusal.
pub same_error : (y e : Refusal) → ◌≡◌ {A = Outcome} (Err y) (Err e) → y ≡ e
same_error y e is = cc

-- A refusal of a check tells of no failure of the spawner, and of no door.
pub cause_none : (outcome : Outcome) (x : ℕ) → IfErr outcome IsOfCheck → HasSpawnCause x x outcome
cause_none (Ok text) x of = record { later = omega arith; failed = λ name told. absurd (cc told); kept = λ not memory. refl; no_door = λ is. cc is }
cause_none (Err refusal) x of = record {
  later = omega arith;
  failed = λ name told. absurd (subst IsOfCheck (same_error refusal (refused.Spawn name) told) of);
  kept = λ not memory. refl;
  no_door = λ is. subst IsOfCheck (same_error refusal refused.Door is) of;
}

-- A failure that is reported under a name is one of the spawner.
pub cause_named : (outcome : Outcome) (before now : ℕ) → HasNamedCause refused.Spawn before now outcome → (IsErrOf outcome refused.Door → ⊥)
    → HasSpawnCause before now outcome
cause_named (Ok text) before now cause no_door = record { later = cause.later; failed = cause.failed; kept = λ not memory. cause.kept; no_door = no_door }
cause_named (Err refusal) before now cause no_door = record {
  later = cause.later;
  failed = cause.failed;
  kept = λ not memory. cause.other refl not;
  no_door = no_door;
}
