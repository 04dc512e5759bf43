-- Causes that are handed on.
use Rattle.std.proofs.Common.{arith, ◌≡◌, ℕ, List, Result, Ok, Err, IfErr, sym, ◌∙◌, ap}
use Rattle.std.specs.Prelude.{IsErrAnd}
use Rattle.outside.specs.Faults.{HasCauseOf}
use Rattle.command_outcome.specs.declared.refusal.Refusal.{Refusal}
use Rattle.command_outcome.specs.declared.refusal.Refusal.TheVariants as refused
use Rattle.core_commands.specs.Handing.{HasSpawnCause}

pub same_refusal : {T : Type 0} (e f : Refusal) → ◌≡◌ {A = Result T Refusal} (Err e) (Err f) → e ≡ f
same_refusal e f is = cc is

-- The refusal that is handed on is that of the call.
pub error_is : {T : Type 0} (r : Result T Refusal) (e : Refusal) → IsErrAnd r (λ x. x ≡ e) → r ≡ Err e
error_is (Ok v) e is = absurd is
error_is (Err x) e is = ap (λ (y : Refusal). Err y) is

pub spawn_same : {A B : Type 0} (e : Refusal) (before now : ℕ) → HasSpawnCause {T = A} before now (Err e) → HasSpawnCause {T = B} before now (Err e)
spawn_same {A = A} {B = B} e before now c = record {
  later = c.later;
  failed = λ name is. c.failed name (ap (λ (r : Refusal). Err r) (same_refusal {T = B} e (refused.Spawn name) is));
  kept = λ not memory. c.kept (λ name is. not name (ap (λ (r : Refusal). Err r) (same_refusal {T = A} e (refused.Spawn name) is)))
      (λ is. memory (ap (λ (r : Refusal). Err r) (same_refusal {T = A} e refused.Memory is)));
  no_door = λ is. c.no_door (ap (λ (r : Refusal). Err r) (same_refusal {T = B} e refused.Door is));
}

-- ---- what never tells of a door

-- A refusal that is none of the door, where no program was run.
pub quiet_spawn : {T : Type 0} (e : Refusal) (before now : ℕ) → now ≡ before → ((name : List ℕ) → e ≡ refused.Spawn name → ⊥) → (e ≡ refused.Door → ⊥)
    → HasSpawnCause {T = T} before now (Err e)
quiet_spawn {T = T} e before now same not_spawn not_door = record {
  later = omega (arith, same);
  failed = λ name is. absurd (not_spawn name (same_refusal {T = T} e (refused.Spawn name) is));
  kept = λ not memory. same;
  no_door = λ is. not_door (same_refusal {T = T} e refused.Door is);
}

-- Where nothing failed, and there is no other refusal than out of memory.
pub quiet_cause : {T : Type 0} (r : Result T Refusal) (before now : ℕ) → now ≡ before → IfErr r (λ e. e ≡ refused.Memory) → HasCauseOf refused.Disk before now r
quiet_cause (Ok said) before now same memory = record { later = omega (arith, same); failed = λ is. absurd (cc is); kept = same; other = λ err not. same }
quiet_cause {T = T} (Err e) before now same memory = record {
  later = omega (arith, same);
  failed = λ is. absurd (two (sym memory ∙ same_refusal {T = T} e refused.Disk is));
  kept = tt;
  other = λ err not. same;
} where
  two : refused.Memory ≡ refused.Disk → ⊥
  two is = cc is
