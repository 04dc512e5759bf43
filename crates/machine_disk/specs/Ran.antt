-- A call that makes these events of the machine, crash included.
use Rattle.std.specs.Prelude.{◌≡◌, ◌⊎◌, ℕ, ◌-◌, ◌≤◌, Bool, true, false, List, [], ◌∷◌, ◌++◌, Option}
use Rattle.outside.specs.Tree.{Tree}
use Rattle.outside.specs.History.{History, tree_of, EachCrashState}
use Rattle.outside.specs.Since.{EachSince}
use Rattle.outside.specs.Spawner.{Run}
use Rattle.outside.specs.Told.{Moves}
use Rattle.settings_machine.specs.World.{Image, World, is_running}
use Rattle.settings_machine.specs.Covered.{IsCovered}
use Rattle.settings_machine.specs.Requests.{Request, Reply}
use Rattle.settings_machine.specs.Step.{Outcome, Answered, WithoutMemory, Unopened, Faulted, fits, request_next, turn_next, opened}
use Rattle.settings_machine.specs.Events.{Event, Opening, Succeeded, Failing, Opened, Asked, Turned, after, acknowledges_any, faulted_after}
use Rattle.settings_machine.specs.Paid.{IsPaid, WasPaid, IsFit}
use Rattle.version_links.specs.declared.chain.Place.{Place}
use Rattle.machine_disk.specs.Store.{HasStore, HasFiles, Recovers, IsReadyAt}
use Rattle.settings_tree.specs.declared.held.Held.{Held}
use Rattle.machine_disk.specs.Kept.{Folder, DiskAt, CoreState, Kept}
use Rattle.machine_disk.specs.Touched.{TouchesOwn}

-- A crash that leaves this tree recovers to the world after the first of the events.
pub record AtPrefix (I : Image) (W : World) (events : List Event) (crashed : Tree) : Type 0 where
  pub first : List Event
  pub rest : List Event
  pub whole : events ≡ first ++ rest
  pub recovers : Recovers I (after I W first) crashed

-- The same, and none of the events after it is acknowledged.
pub record AtLatePrefix (I : Image) (W : World) (events : List Event) (crashed : Tree) : Type 0 where
  pub prefix : AtPrefix I W events crashed
  pub unacknowledged : acknowledges_any I (after I W prefix.first) prefix.rest ≡ false

-- X is V, or the world after the first of the events, and none of the events after it is acknowledged.
pub data IsLate (I : Image) (W V : World) (events : List Event) (X : World) : Type 0 where
  Before : X ≡ V → acknowledges_any I W events ≡ false → IsLate I W V events X
  Within : (first rest : List Event) → events ≡ first ++ rest → X ≡ after I W first → acknowledges_any I X rest ≡ false → IsLate I W V events X

-- A crash at a moment since the start recovers to V, or to a world on the way.
abbrev pub OnTheWay : Image → World → World → List Event → Tree → Type 0
OnTheWay I W V events crashed = Recovers I V crashed ⊎ AtPrefix I W events crashed

-- A crash that leaves this tree recovers to the world after a prefix of the events, and none of the first ones that it leaves out is acknowledged.
pub record AtPrefixPast (I : Image) (W : World) (first events : List Event) (crashed : Tree) : Type 0 where
  pub prefix : AtPrefix I W events crashed
  pub none_lost : (rest : List Event) → first ≡ prefix.first ++ rest → acknowledges_any I (after I W prefix.first) rest ≡ false

-- A crash recovers to such a world; or to V, and then none of the first events is acknowledged.
abbrev pub KeepsFirst : Image → World → World → List Event → List Event → Tree → Type 0
KeepsFirst I W V first events crashed = (Recovers I V crashed × (acknowledges_any I W first ≡ false)) ⊎ AtPrefixPast I W first events crashed

-- The moment of a run at which the first of its events were made: the tree represents the world after them, and a crash at any moment since keeps
-- what is acknowledged of them.
pub record Moment (I : Image) (W V : World) (first events : List Event) (old new : History) : Type 0 where
  pub then_is : History
  pub reached : EachSince (λ crashed. Unit {0}) old then_is
  pub store : HasStore (after I W first) (tree_of then_is)
  pub etc : HasFiles (after I W first).etc (tree_of then_is)
  pub keeps : EachSince (KeepsFirst I W V first events) then_is new

-- There is such a moment for each prefix of the events.
abbrev pub HasMoments : Image → World → World → List Event → History → History → Type 0
HasMoments I W V events old new = (first rest : List Event) → events ≡ first ++ rest → Moment I W V first events old new

-- From W the events lead on, on the disk and in the core, and no path is touched but their own.
pub record Ran (I : Image) (folder : Folder) (W V : World) (events : List Event) (old new : History) (before now : CoreState) : Type 0 where
  pub other : World
  pub late : IsLate I W V events other
  pub kept : Kept I folder (after I W events) other new now
  pub flag : now.faulted ≡ faulted_after before.faulted events
  pub moments : EachSince (OnTheWay I W V events) old new
  pub keeps : HasMoments I W V events old new
  pub touches : TouchesOwn I events old new

-- ---- the forms of the calls

-- The opening that comes before a request: none where no call of the disk has failed, or where it was refused; else one that
-- succeeded where the request was answered, and one that failed only where the request was given up.
abbrev pub Reopens : Bool → Outcome → List Event → Type 0
Reopens false (Unopened at) first = ⊥
Reopens false o first = first ≡ []
Reopens true (Unopened at) first = first ≡ []
Reopens true Answered first = first ≡ Opened false Succeeded ∷ []
Reopens true WithoutMemory first = (opening : Opening) × (first ≡ Opened false opening ∷ [])
Reopens true (Faulted taken) first = (opening : Opening) × (first ≡ Opened false opening ∷ []) × ((opening ≡ Succeeded) ⊎ (taken ≡ false))

-- One request, answered by the machine, with the opening that comes before it.
pub record Handled (I : Image) (faulted : Bool) (W : World) (q : Request) (reply : Reply) (events : List Event) : Type 0 where
  pub outcome : Outcome
  pub first : List Event
  pub reopens : Reopens faulted outcome first
  pub made : events ≡ first ++ Asked q outcome ∷ []
  pub replied : reply ≡ (request_next I (after I W first) q outcome).reply

-- Turns until so many were made or no job runs, each with an answer that fits it.
abbrev pub IsSlice : Image → ℕ → World → List Event → Type 0
IsSlice I n W [] = (n ≡ 0) ⊎ (is_running W.job ≡ false)
IsSlice I n W (Turned a ∷ es) = (1 ≤ n) × (is_running W.job ≡ true) × (fits W.job a ≡ true) × IsSlice I (n - 1) (turn_next I W a) es
IsSlice I n W (_ ∷ es) = ⊥

-- Turns until no job runs, each with an answer that fits it.
abbrev pub IsDriven : Image → World → List Event → Type 0
IsDriven I W [] = is_running W.job ≡ false
IsDriven I W (Turned a ∷ es) = (is_running W.job ≡ true) × (fits W.job a ≡ true) × IsDriven I (turn_next I W a) es
IsDriven I W (_ ∷ es) = ⊥

-- ---- openings

-- An opening that succeeded: the disk is at the opened world alone, which is fit and of format 2, and the store is ready at its
-- place with what is held. Nothing but the data directory is touched.
pub record OpensTo (I : Image) (folder : Folder) (W V : World) (boot : Bool) (place : Place) (held : Held) (old new : History) : Type 0 where
  pub fit : IsFit I (opened I W boot)
  pub format : W.format ≡ 2
  pub disk : DiskAt I folder (opened I W boot) (opened I W boot) new
  pub ready : IsReadyAt place held new
  pub moments : EachSince (OnTheWay I W V (Opened boot Succeeded ∷ [])) old new
  pub keeps : HasMoments I W V (Opened boot Succeeded ∷ []) old new
  pub touches : TouchesOwn I (Opened boot Succeeded ∷ []) old new

-- One that failed was taken or not.
pub record OpensNot (I : Image) (folder : Folder) (W V : World) (boot : Bool) (old new : History) : Type 0 where
  pub taken : Bool
  pub other : World
  pub late : IsLate I W V (Opened boot (Failing taken) ∷ []) other
  pub disk : DiskAt I folder (after I W (Opened boot (Failing taken) ∷ [])) other new
  pub moments : EachSince (OnTheWay I W V (Opened boot (Failing taken) ∷ [])) old new
  pub keeps : HasMoments I W V (Opened boot (Failing taken) ∷ []) old new
  pub touches : TouchesOwn I (Opened boot (Failing taken) ∷ []) old new

-- ---- a run

-- The tree's world: its store's parts, its configuration files, and an idle job.
pub record IsWorldOf (crashed : Tree) (X : World) : Type 0 where
  pub store : HasStore X crashed
  pub etc : HasFiles X.etc crashed
  pub job : is_running X.job ≡ false

-- After the events each covered file is paid that was paid in W, and after a boot each is.
abbrev pub StayPaid : Image → World → List Event → Type 0
StayPaid I W events = (f : List ℕ) → IsCovered I f → WasPaid I W events f → IsPaid I (after I W events) f

-- So it is after the first of them, whichever these are.
abbrev pub EachPaid : Image → World → List Event → Type 0
EachPaid I W events = (first rest : List Event) → events ≡ first ++ rest → StayPaid I W first

-- A crash that leaves this tree recovers to the world after the events; and in each world of the tree the same files are paid.
pub record LeavesPaid (I : Image) (W : World) (events : List Event) (crashed : Tree) : Type 0 where
  pub recovers : Recovers I (after I W events) crashed
  pub paid : (f : List ℕ) → IsCovered I f → WasPaid I W events f → (X : World) → IsWorldOf crashed X → IsPaid I X f

-- So it is of the first of the events.
pub record AtPaidPrefix (I : Image) (W : World) (events : List Event) (crashed : Tree) : Type 0 where
  pub first : List Event
  pub rest : List Event
  pub whole : events ≡ first ++ rest
  pub leaves : LeavesPaid I W first crashed

-- A run of these events, what a crash at any moment leaves of it, and which files are paid. Where no call of the disk has failed in it,
-- or none since an opening that succeeded, the disk is at the last world alone.
pub record RunsTo (I : Image) (folder : Folder) (W : World) (events : List Event) (old new : History) : Type 0 where
  pub store : HasStore (after I W events) (tree_of new)
  pub etc : HasFiles (after I W events).etc (tree_of new)
  pub paid : EachPaid I W events
  pub any_moment : EachSince (AtPrefix I W events) old new
  pub keeps : HasMoments I W W events old new
  pub at_exit : EachCrashState (AtLatePrefix I W events) new
  pub crash_paid : EachSince (AtPaidPrefix I W events) old new
  pub settles : faulted_after false events ≡ false → DiskAt I folder (after I W events) (after I W events) new

-- The programs that were run grew by those of the events, where they were those of the world.
abbrev pub RunsBy : Image → World → List Event → Option (List Run) → Option (List Run) → Type 0
RunsBy I W events ran_before ran_after = Moves ran_before ran_after (λ r s. r ≡ W.runs → s ≡ (after I W events).runs)
