-- How many questions an order asks.
use Rattle.std.specs.Prelude.{◌≡◌, ◌≤◌, ◌+◌, ◌⊎◌, ℕ, min, nat_lt, if◌then◌else◌, Bool, true, false, List, length, None, Some}
use Rattle.host_client.specs.Orders.{Order, get, set, commit, try_out, apply, wait, Spells, SpellsNone}
use Rattle.host_client.specs.Steps.{next}
use Rattle.host_client.specs.declared.command.Pace.{Pace}
use Rattle.host_client.specs.declared.reply.Got.{Got}
use Rattle.host_client.specs.declared.step.Ending.{Ending}
use Rattle.host_client.specs.declared.step.Step.{Step}
use Rattle.host_client.specs.declared.step.Step.TheVariants.{End}

-- So many questions, with no pause between them.
abbrev pub unpaced : ℕ → Pace
unpaced most = record { at_once = most; most = most }

-- The settings at several keys are asked for all at once, then for each key, and then for one at which nothing is.
abbrev pub most_of : List (List ℕ) → ℕ
most_of keys = if nat_lt (length keys) 2 then 2 else length keys + 2

-- How many questions an order asks at most, one a second of a job for as long as it is waited for, and how many of them at once.
abbrev pub pace_of : Order → Pace
pace_of (get keys) = unpaced (most_of keys)
pace_of (set body) = record { at_once = 2; most = 302 }
pace_of (commit tx) = record { at_once = 2; most = 302 }
pace_of (apply all) = record { at_once = 2; most = 302 }
pace_of (try_out body) = unpaced 4
pace_of (wait None) = record { at_once = 2; most = 301 }
pace_of (wait (Some seconds)) = record { at_once = 2; most = min seconds 3600 + 1 }
pace_of _ = unpaced 2

-- An order waits for a job, for as long as that runs.
abbrev pub waits : Order → Bool
waits (set body) = true
waits (commit tx) = true
waits (apply all) = true
waits (wait seconds) = true
waits _ = false

-- No question comes next.
pub record IsEnd (step : Step) : Type 0 where
  pub ending : Ending
  pub is : step ≡ End ending

-- After so many replies there is no further question, unless a job is waited for.
abbrev pub IsEnough : Order → ℕ → Type 0
IsEnough ordered most = (replies : List Got) → waits ordered ≡ false → most ≤ length replies → IsEnd (next ordered replies)

-- So many questions are asked at most, and none of words that order nothing.
abbrev pub AsksAtMost : List (List ℕ) → Pace → Type 0
AsksAtMost words pace =
    (SpellsNone words × (pace ≡ record { at_once = 0; most = 0 }))
    ⊎ ((ordered : Order) × Spells words ordered × (pace ≡ pace_of ordered) × IsEnough ordered pace.most)
