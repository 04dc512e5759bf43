-- Runs in which nothing fails come to what the world and the words say.
use Rattle.std.specs.Prelude.{◌≡◌, ⊤, Bool, true, false, Ok, Err}
use Rattle.settings_machine.specs.World.{Image, World}
use Rattle.machine_disk.specs.Kept.{Folder}
use Rattle.command_outcome.specs.Ends.{Outcome}
use Rattle.command_outcome.specs.declared.refusal.Refusal.TheVariants as refused
use Rattle.command_words.specs.Orders.{Order, Spells, set, get, apply, verify}
use Rattle.settings_run.specs.Life.{Invocation, Rests}

-- No device failed, memory did not run out, no program ended badly, and the store was opened: it printed something, or the machine, a template or
-- the state of a file refuses it.
abbrev pub IsCalm : Outcome → Type 0
IsCalm (Ok text) = ⊤
IsCalm (Err (refused.Refused refusal)) = ⊤
IsCalm (Err (refused.Render file error)) = ⊤
IsCalm (Err (refused.NotCurrent lines)) = ⊤
IsCalm (Err _) = ⊥

-- The order is a `set`, a `get`, an `apply` or a `verify`.
abbrev pub is_of_store : Order → Bool
is_of_store (set pairs) = true
is_of_store (get keys) = true
is_of_store (apply all) = true
is_of_store verify = true
is_of_store _ = false

-- Two calm runs of such an order over one image, from disks at one world, came to the same: the exit status and the text are a function of the
-- world and the words.
abbrev pub CalmRunsAgree : Type 0
CalmRunsAgree = (order : Order) → is_of_store order ≡ true → (I : Image) (W : World) (one other : Invocation) → Spells one.words order
    → Spells other.words order → (folder below : Folder) → Rests I folder W one.old → Rests I below W other.old → IsCalm one.promised.outcome
    → IsCalm other.promised.outcome → one.promised.outcome ≡ other.promised.outcome
