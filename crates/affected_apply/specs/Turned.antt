-- Turns of the job of a core, as events of the machine.
use Rattle.std.specs.Prelude.{◌≡◌, ◌||◌, ◌&&◌, ℕ, Bool, true, List, [], ◌∷◌, Option, Some, None}
use Rattle.outside.specs.History.{History, IsSettled}
use Rattle.outside.specs.Spawner.{Run}
use Rattle.outside.specs.Told.{Moves}
use Rattle.settings_tree.specs.declared.entry.Entry.{Entry}
use Rattle.settings_tree.specs.declared.entry.Entry.TheVariants.{OwedSet}
use Rattle.settings_tree.specs.declared.entry.Owed.TheVariants as owed
use Rattle.settings_tree.specs.declared.held.Held.{Held}
use Rattle.settings_machine.specs.World.{Key, Image, World, Work, Job, Running, is_running}
use Rattle.settings_machine.specs.Step.{Answer, fits, turn_next}
use Rattle.settings_machine.specs.Events.{Event, Turned, after}
use Rattle.settings_machine.specs.Paid.{IsGood}
use Rattle.machine_disk.specs.Kept.{Folder, CoreState, Kept}
use Rattle.machine_disk.specs.Ran.{Ran, IsSlice, IsDriven}
use Rattle.store_open.specs.Laws.{HoldsImage}
use Rattle.affected_apply.specs.Jobs.{failed_with_disk}
use Rattle.affected_apply.specs.declared.store.Store.{Store}

-- The core over this store, with what it holds, its job, and whether a call of the disk has failed since the last opening.
abbrev pub core_at : Store → Held → Job → Bool → CoreState
core_at s held job faulted = record { place = s.place.now; held = held; job = job; faulted = faulted }

-- ---- one turn

-- A turn is one event of the machine, for the answer that the outside gave, which fits it: on the disk, in the core and in the programs that were run.
pub record IsEvent (I : Image) (folder : Folder) (W V : World) (before now : CoreState) (ran_before ran_after : Option (List Run)) (old new : History) : Type
    0 where
  pub answer : Answer
  pub fitting : fits W.job answer ≡ true
  pub ran : Ran I folder W V (Turned answer ∷ []) old new before now
  pub runs : Moves ran_before ran_after (λ r s. r ≡ W.runs → s ≡ (turn_next I W answer).runs)

-- By each image that the core holds, in each world at which disk and core are, a turn is one event.
pub record IsTurn (s : Store) (held : Held) (job : Job) (held_after : Held) (job_left : Job) (ran_before ran_after : Option (List Run))
    (old new : History) : Type 0 where
  pub event : (I : Image) → IsGood I → HoldsImage I s.image.now → (folder : Folder) (faulted : Bool) (W V : World)
      → Kept I folder W V old (core_at s held job faulted)
      → IsEvent I folder W V (core_at s held job faulted) (core_at s held_after job_left (faulted || failed_with_disk job_left)) ran_before ran_after old new

-- ---- turns one after another

-- Turns until so many were made or no job runs, or without a number until no job runs.
abbrev pub AreTurns : Image → Option ℕ → World → List Event → Type 0
AreTurns I None W events = IsDriven I W events
AreTurns I (Some n) W events = IsSlice I n W events

-- A slice of turns: on the disk, in the core and in the programs that were run.
pub record AreEvents (I : Image) (folder : Folder) (W V : World) (slice : Option ℕ) (before now : CoreState) (ran_before ran_after : Option (List Run))
    (old new : History) : Type 0 where
  pub events : List Event
  pub form : AreTurns I slice W events
  pub ran : Ran I folder W V events old new before now
  pub runs : Moves ran_before ran_after (λ r s. r ≡ W.runs → s ≡ (after I W events).runs)

-- By each image that the core holds, in each world at which disk and core are, the turns are a slice.
pub record Turns (s : Store) (slice : Option ℕ) (held : Held) (job : Job) (held_after : Held) (job_left : Job) (ran_before ran_after : Option (List Run))
    (old new : History) : Type 0 where
  pub events : (I : Image) → IsGood I → HoldsImage I s.image.now → (folder : Folder) (faulted : Bool) (W V : World)
      → Kept I folder W V old (core_at s held job faulted)
      → AreEvents I folder W V slice (core_at s held job faulted)
      (core_at s held_after job_left (faulted || (is_running job && failed_with_disk job_left))) ran_before ran_after old new

-- ---- for private clauses

-- The change that makes these keys what is owed.
abbrev pub noted_change : List Key → List Entry
noted_change keys = OwedSet (owed.Keys keys) ∷ []

-- The end of a job is one event of the machine.
pub record IsLastEvent (I : Image) (folder : Folder) (W V : World) (before now : CoreState) (old new : History) : Type 0 where
  pub answer : Answer
  pub fitting : fits W.job answer ≡ true
  pub ran : Ran I folder W V (Turned answer ∷ []) old new before now
  pub runs : (turn_next I W answer).runs ≡ W.runs

-- By each image that the core holds, in each world at which disk and core are, the end of a job on a disk that is settled is one event.
pub record Ends (s : Store) (held : Held) (w : Work) (held_after : Held) (job_left : Job) (old new : History) : Type 0 where
  pub event : (I : Image) → IsGood I → HoldsImage I s.image.now → (folder : Folder) (faulted : Bool) (W V : World) → IsSettled old
      → Kept I folder W V old (core_at s held (Running w) faulted)
      → IsLastEvent I folder W V (core_at s held (Running w) faulted) (core_at s held_after job_left (faulted || failed_with_disk job_left)) old new
