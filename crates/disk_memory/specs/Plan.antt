-- Which calls of a disk in memory fail.
use Rattle.std.specs.Prelude.{◌≡◌, ◌↔◌, ℕ, ◌+◌, ◌-◌, ◌^◌, ◌==◌, ◌||◌, nat_lt, min}
use Rattle.std.specs.Prelude.{Bool, false, IsTrue, Option, Some, None, Result, IsErr, is_err, IsErrOf, if◌then◌else◌}
use Rattle.std.specs.List.{list_any}
use Rattle.outside.specs.declared.disk_error.DiskErr.{DiskErr}
use Rattle.outside.specs.declared.disk_error.DiskErr.TheVariants.{Failed}
use Rattle.disk_memory.specs.declared.plan.Plan.{Plan}

-- The number comes after the last call that is let through, if there is one.
abbrev pub is_after : Option ℕ → ℕ → Bool
is_after None n = false
is_after (Some last) n = nat_lt last n

-- The call with this number is set to fail.
abbrev pub fails_at : Plan → ℕ → Bool
fails_at plan n = is_after plan.stop n || list_any (λ k. k == n) plan.failing.items

-- One more, up to the last value.
abbrev pub one_more : ℕ → ℕ
one_more n = min (n + 1) (2 ^ 64 - 1)

-- The number of the next call.
abbrev pub next_call : Plan → ℕ
next_call plan = one_more plan.calls

-- One failure more was counted.
abbrev pub raised : Plan → Plan
raised plan = record { calls = plan.calls; faults = one_more plan.faults; failing = plan.failing; stop = plan.stop }

-- One call more was counted, which has failed or not.
abbrev pub counted : Bool → Plan → Plan
counted failed plan = record { calls = next_call plan; faults = if failed then one_more plan.faults else plan.faults; failing = plan.failing; stop = plan.stop }

-- A call that reads failed exactly where it was set to fail, and that alone raised the count.
pub record CountsRead {T : Type 0} (old new : Plan) (result : Result T DiskErr) : Type 0 where
  pub failed : IsErrOf result Failed ↔ IsTrue (fails_at old (next_call old))
  pub counted : new ≡ counted (fails_at old (next_call old)) old

-- A call that writes failed where it was set to fail, or because it ran out of memory, and each failure raised the count.
pub record CountsWrite {T E : Type 0} (old new : Plan) (result : Result T E) : Type 0 where
  pub failed : IsTrue (fails_at old (next_call old)) → IsErr result
  pub counted : new ≡ counted (is_err result) old
