-- When a device may answer that it failed.
use Rattle.std.specs.Prelude.{◌≡◌, ℕ, ◌+◌, ◌-◌, ◌^◌, ◌≤◌, min, Result, OnOk, OnErr, IsErr, IsErrOf}
use Rattle.outside.specs.declared.disk_error.DiskErr.{DiskErr}
use Rattle.outside.specs.declared.disk_error.DiskErr.TheVariants as device

-- The count rose, or it is at its last value.
abbrev pub Rose : ℕ → ℕ → Type 0
Rose before now = min (before + 1) (2 ^ 64 - 1) ≤ now

-- The count never falls, an error comes only where it rose, and no failure is passed over.
pub record HasCause {T E : Type 0} (before now : ℕ) (result : Result T E) : Type 0 where
  pub later : before ≤ now
  pub failed : OnErr result (Rose before now)
  pub kept : OnOk result (now ≡ before)

-- The same where there are other errors: `failure` tells of a rise, and any other error leaves the count.
pub record HasCauseOf {T E : Type 0} (failure : E) (before now : ℕ) (result : Result T E) : Type 0 where
  pub later : before ≤ now
  pub failed : IsErrOf result failure → Rose before now
  pub kept : OnOk result (now ≡ before)
  pub other : IsErr result → (IsErrOf result failure → ⊥) → now ≡ before

-- A disk's error is reported under these two names: the first where it failed, the second where it ran out of memory.
abbrev pub HandsOn : {E : Type 0} → E → E → DiskErr → E → Type 0
HandsOn failed memory device.Failed e = e ≡ failed
HandsOn failed memory device.Memory e = e ≡ memory
