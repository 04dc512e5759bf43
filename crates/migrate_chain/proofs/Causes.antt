-- When the spawner may be said to have failed, call by call.
use Rattle.std.proofs.Common.{◌≡◌, ℕ, ◌≤◌, List, Result, Ok, Err, refl, sym, ◌∙◌, ap, subst, arith}
use Rattle.std.specs.Prelude.{IsErr, IsErrAnd, IfErr}
use Rattle.outside.specs.Faults.{HasCauseOf, Rose}
use Rattle.outside.specs.declared.disk_error.DiskErr.{DiskErr}
use Rattle.outside.specs.declared.disk_error.DiskErr.TheVariants as device
use Rattle.migrate_chain.specs.declared.task_error.TaskError.{TaskError}
use Rattle.migrate_chain.specs.declared.task_error.TaskError.TheVariants as unmade
use Rattle.migrate_chain.specs.declared.move_error.MoveError.{MoveError}
use Rattle.migrate_chain.specs.declared.move_error.MoveError.TheVariants.{Spawn}
use Rattle.migrate_chain.specs.Causes.{HasNamedCause}
use Rattle.migrate_chain.specs.Errors.{of_disk, of_task}
use Rattle.migrate_chain.specs.Moving.{IsRefusal}
use Rattle.migrate_chain.specs.Tasks.{Names}

-- Errors that are handed on alike are one.
pub same_error : {T E : Type 0} (x y : E) → ◌≡◌ {A = Result T E} (Err x) (Err y) → x ≡ y
same_error x y e = cc

no_error : {T E : Type 0} (v : T) (x : E) → ◌≡◌ {A = Result T E} (Ok v) (Err x) → ⊥
no_error v x e = cc

no_ok : {T : Type 0} (E : Type 0) (v : T) → IsErr {T = T} {E = E} (Ok v) → ⊥
no_ok E v e = cc

-- ---- one task

failed_so : (e : TaskError) (name own : List ℕ) → Names own e → e ≡ unmade.Failed name → name ≡ own
failed_so e name own names is = subst (Names own) is names

-- A task's failure has the task's name.
pub cause_task : {S T : Type 0} (r : Result T TaskError) (e : TaskError) (own : List ℕ) (x z y : ℕ) → z ≡ x → IsErrAnd r (λ v. v ≡ e) → Names own e
    → HasCauseOf {T = S} (unmade.Failed own) z y (Err e) → HasNamedCause unmade.Failed x y r
cause_task (Ok v) e own x z y same is names cause = absurd is
cause_task (Err v) e own x z y same is names cause = record {
  later = subst (λ n. n ≤ y) same cause.later;
  failed = λ name told.
      let failed : e ≡ unmade.Failed name = sym is ∙ same_error v (unmade.Failed name) told in
      subst (λ n. Rose n y) same (cause.failed (ap Err (failed ∙ ap (λ n. unmade.Failed n) (failed_so e name own names failed))));
  kept = tt;
  other = λ err none. cause.other err (λ told. none own (ap Err (is ∙ same_error e (unmade.Failed own) told))) ∙ same;
}

-- ---- a move

-- A task's failure is handed on as `Spawn`.
spawned : (e : TaskError) (name : List ℕ) → of_task e ≡ Spawn name → e ≡ unmade.Failed name
spawned (unmade.Conflict key) name is = cc
spawned (unmade.Status at number) name is = cc
spawned (unmade.BadAnswer at) name is = cc
spawned (unmade.Failed at) name is = let same : at ≡ name = cc in ap (λ n. unmade.Failed n) same
spawned unmade.Memory name is = cc

pub cause_spawned : {S T : Type 0} (r : Result T MoveError) (e : TaskError) (x z y : ℕ) → z ≡ x → IsErrAnd r (λ v. v ≡ of_task e)
    → HasNamedCause {T = S} unmade.Failed z y (Err e) → HasNamedCause Spawn x y r
cause_spawned (Ok v) e x z y same is cause = absurd is
cause_spawned (Err v) e x z y same is cause = record {
  later = subst (λ n. n ≤ y) same cause.later;
  failed = λ name told. subst (λ n. Rose n y) same (cause.failed name (ap Err (spawned e name (sym is ∙ same_error v (Spawn name) told))));
  kept = tt;
  other = λ err none. cause.other err (λ name told. none name (ap Err (is ∙ ap of_task (same_error e (unmade.Failed name) told)))) ∙ same;
}

-- The same error is handed on.
pub cause_handed : {S T : Type 0} (r : Result T MoveError) (e : MoveError) (x y : ℕ) → IsErrAnd r (λ v. v ≡ e) → HasNamedCause {T = S} Spawn x y (Err e)
    → HasNamedCause Spawn x y r
cause_handed (Ok v) e x y is cause = absurd is
cause_handed (Err v) e x y is cause = record {
  later = cause.later;
  failed = λ name told. cause.failed name (ap Err (sym is ∙ same_error v (Spawn name) told));
  kept = tt;
  other = λ err none. cause.other err (λ name told. none name (ap Err (is ∙ same_error e (Spawn name) told)));
}

-- The spawner was not asked, or answered all it was asked, and the error is another.
pub cause_quiet : {T : Type 0} (r : Result T MoveError) (e : MoveError) (x y : ℕ) → y ≡ x → IsErrAnd r (λ v. v ≡ e) → (IsRefusal e → ⊥)
    → HasNamedCause Spawn x y r
cause_quiet (Ok v) e x y same is quiet = absurd is
cause_quiet (Err v) e x y same is quiet = record {
  later = subst (λ n. x ≤ n) (sym same) (omega arith);
  failed = λ name told. absurd (quiet (subst IsRefusal (sym (sym is ∙ same_error v (Spawn name) told)) tt));
  kept = tt;
  other = λ err none. same;
}

-- And so where it ends well.
pub cause_done : {T : Type 0} (v : T) (x y : ℕ) → y ≡ x → HasNamedCause {E = MoveError} Spawn x y (Ok v)
cause_done v x y same = record {
  later = subst (λ n. x ≤ n) (sym same) (omega arith);
  failed = λ name told. absurd (no_error v (Spawn name) told);
  kept = same;
  other = λ err. absurd (no_ok MoveError v err);
}

-- It was not asked since, whatever else is answered.
pub cause_unasked : {S T : Type 0} (v : S) (r : Result T MoveError) (x y : ℕ) → IfErr r (λ e. IsRefusal e → ⊥) → HasNamedCause {E = MoveError} Spawn x y (Ok v)
    → HasNamedCause Spawn x y r
cause_unasked v (Ok w) x y quiet cause = cause_done w x y cause.kept
cause_unasked v (Err e) x y quiet cause = cause_quiet (Err e) e x y cause.kept refl quiet

pub disk_quiet : (e : DiskErr) → IsRefusal (of_disk e) → ⊥
disk_quiet device.Failed refusal = refusal
disk_quiet device.Memory refusal = refusal

-- ---- the disk

-- The same error is handed on.
pub cause_passed : {S T E : Type 0} (r : Result T E) (failure e : E) (x y : ℕ) → IsErrAnd r (λ v. v ≡ e) → HasCauseOf {T = S} failure x y (Err e)
    → HasCauseOf failure x y r
cause_passed (Ok v) failure e x y is cause = absurd is
cause_passed (Err v) failure e x y is cause = record {
  later = cause.later;
  failed = λ told. cause.failed (ap Err (sym is ∙ same_error v failure told));
  kept = tt;
  other = λ err none. cause.other err (λ told. none (ap Err (is ∙ same_error e failure told)));
}
