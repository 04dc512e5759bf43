-- Events of the machine that are made and counted.
use Rattle.std.specs.Prelude.{◌≡◌, ℕ, false, List, [], ◌∷◌, map}
use Rattle.outside.specs.History.{History}
use Rattle.outside.specs.Spawner.{Run}
use Rattle.disk_memory.specs.Asked.{run_of}
use Rattle.disk_memory.specs.Spawner.{runs_of}
use Rattle.disk_memory.specs.declared.spawner.MemorySpawner.{MemorySpawner}
use Rattle.api_http.specs.Requests.{Asks}
use Rattle.settings_machine.specs.World.{Image, World, is_running}
use Rattle.settings_machine.specs.Requests.{Request}
use Rattle.settings_machine.specs.Step.{Answered, Answer, Fine}
use Rattle.settings_machine.specs.Events.{Event, Asked, Turned, next, after}
use Rattle.settings_machine.specs.Paid.{IsGood}
use Rattle.machine_disk.specs.Kept.{Folder, Kept}
use Rattle.machine_disk.specs.Ran.{Ran}
use Rattle.store_open.specs.Laws.{HoldsImage}
use Rattle.api_core.specs.Cores.{core_state}
use Rattle.api_core.specs.declared.serving.Core.{Core}
use Rattle.load_input.specs.declared.counts.Counts.{Counts}
use Rattle.load_input.specs.Counts.{with_events}

-- The programs that were run.
abbrev pub ran : MemorySpawner → List Run
ran spawner = map run_of (runs_of spawner)

-- The bytes begin with a whole request, which asks this.
pub record IsAskedBy (bytes : List ℕ) (q : Request) : Type 0 where
  pub size : ℕ
  pub asks : Asks bytes q size

-- Each of the requests is asked by its bytes.
abbrev pub AreAskedBy : List (List ℕ) → List Request → Type 0
AreAskedBy [] [] = Unit {0}
AreAskedBy (b ∷ bs) (q ∷ qs) = IsAskedBy b q × AreAskedBy bs qs
AreAskedBy _ _ = ⊥

-- The requests among the events.
abbrev pub requests_in : List Event → List Request
requests_in [] = []
requests_in (Asked q o ∷ es) = q ∷ requests_in es
requests_in (e ∷ es) = requests_in es

-- Each request comes where no job runs: all turns after the one before it are made.
abbrev pub AskedIdle : Image → World → List Event → Type 0
AskedIdle I W [] = Unit {0}
AskedIdle I W (Asked q o ∷ es) = (is_running W.job ≡ false) × AskedIdle I (next I W (Asked q o)) es
AskedIdle I W (e ∷ es) = AskedIdle I (next I W e) es

-- The turn went well.
abbrev pub IsFine : Answer → Type 0
IsFine (Fine status) = Unit {0}
IsFine _ = ⊥

-- The events are requests that the machine answered, and turns that went well: no device failed, and nowhere it ran out of memory.
abbrev pub WentWell : List Event → Type 0
WentWell [] = Unit {0}
WentWell (Asked q o ∷ es) = (o ≡ Answered) × WentWell es
WentWell (Turned a ∷ es) = IsFine a × WentWell es
WentWell (e ∷ es) = ⊥

-- Events of the machine from W on, on the disk, in the core and in the programs that were run, the bytes that ask their requests, and what is counted of them.
-- All went well in them.
pub record CountedBy (I : Image) (folder : Folder) (W V : World) (bytes : List (List ℕ)) (c now : Core) (n m : Counts) (ran_after : List Run)
    (old new : History) : Type 0 where
  pub events : List Event
  pub made : Ran I folder W V events old new (core_state c) (core_state now)
  pub runs : ran_after ≡ (after I W events).runs
  pub counts : m ≡ with_events I W events n
  pub asked : AreAskedBy bytes (requests_in events)
  pub idle : AskedIdle I W events
  pub well : WentWell events
  pub image : HoldsImage I now.image

-- By each image that the core holds, and in each world at which disk and core are and whose programs are those that were run.
pub record Counted (bytes : List (List ℕ)) (c now : Core) (n m : Counts) (ran_before ran_after : List Run) (old new : History) : Type 0 where
  pub each : (I : Image) → IsGood I → HoldsImage I c.image → (folder : Folder) (W V : World) → Kept I folder W V old (core_state c) → ran_before ≡ W.runs
      → CountedBy I folder W V bytes c now n m ran_after old new
