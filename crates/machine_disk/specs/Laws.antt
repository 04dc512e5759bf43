-- The laws of a run on a disk.
use Rattle.std.specs.Prelude.{◌≡◌, Bool, true, false, List, ◌∷◌, ◌++◌}
use Rattle.outside.specs.Tree.{Tree}
use Rattle.outside.specs.History.{History, EachCrashState}
use Rattle.version_links.specs.declared.chain.Place.{Place}
use Rattle.settings_tree.specs.declared.held.Held.{Held}
use Rattle.settings_machine.specs.World.{Image, World, is_running}
use Rattle.settings_machine.specs.Step.{opened}
use Rattle.settings_machine.specs.Events.{Event, Opened, Succeeded, after, are_served}
use Rattle.settings_machine.specs.Paid.{IsGood}
use Rattle.machine_disk.specs.Store.{HasStore, Recovers}
use Rattle.machine_disk.specs.Kept.{Folder, DiskAt, CoreState, Kept}
use Rattle.machine_disk.specs.Touched.{TouchesOwn}
use Rattle.machine_disk.specs.Ran.{Ran, OpensTo, RunsTo}

-- A call that goes on from where another ended makes one run with it.
abbrev pub CallsFollow : Type 0
CallsFollow = (I : Image) (folder : Folder) (W V : World) (first rest : List Event) (old mid new : History) (before between now : CoreState)
    (one : Ran I folder W V first old mid before between) → Ran I folder (after I W first) one.other rest mid new between now
    → Ran I folder W V (first ++ rest) old new before now

-- An opening that meets no running job, and what calls made of it afterwards, is a run: the tree has the last world; on the way each
-- covered file stays paid that was paid, and after a boot each is; a crash at any moment leaves a tree that recovers to a world on
-- the way; a crash at the end leaves one after which nothing is acknowledged; and where no call of the disk has failed, the disk is at
-- the last world alone.
abbrev pub RunsAreWhole : Type 0
RunsAreWhole = (I : Image) → IsGood I → (folder : Folder) (W : World) (boot : Bool) (events : List Event) (old mid new : History) (place : Place) (held : Held)
    (before now : CoreState) → is_running W.job ≡ false → OpensTo I folder W W boot place held old mid → before.faulted ≡ false → are_served events ≡ true
    → Ran I folder (opened I W boot) (opened I W boot) events mid new before now → RunsTo I folder W (Opened boot Succeeded ∷ events) old new

-- Such a run touches only what is below the data directory and, where a turn is among its events, files of the manifest.
abbrev pub RunsTouchOwn : Type 0
RunsTouchOwn = (I : Image) (folder : Folder) (W : World) (boot : Bool) (events : List Event) (old mid new : History) (place : Place) (held : Held)
    (before now : CoreState) → OpensTo I folder W W boot place held old mid
    → Ran I folder (opened I W boot) (opened I W boot) events mid new before now → TouchesOwn I (Opened boot Succeeded ∷ events) old new

-- Where no call of the disk has failed since the last opening that succeeded, the disk is at the world alone.
abbrev pub CalmDisksSettle : Type 0
CalmDisksSettle = (I : Image) (folder : Folder) (W V : World) (h : History) (state : CoreState) → state.faulted ≡ false → Kept I folder W V h state
    → DiskAt I folder W W h

-- Where no call of the disk has failed since the last opening that succeeded, a crash leaves what recovers to the world.
abbrev pub CrashesRecover : Type 0
CrashesRecover = (I : Image) (folder : Folder) (W V : World) (h : History) (state : CoreState) → state.faulted ≡ false → Kept I folder W V h state
    → EachCrashState (Recovers I W) h

-- Where none has, the core holds what the world holds.
abbrev pub CoresHold : Type 0
CoresHold = (I : Image) (folder : Folder) (W V : World) (h : History) (state : CoreState) → Kept I folder W V h state → state.faulted ≡ false
    → W.held ≡ state.held

-- The two worlds have the same stored parts.
pub record IsSameStore (W X : World) : Type 0 where
  pub version : X.version ≡ W.version
  pub format : X.format ≡ W.format
  pub held : X.held ≡ W.held

-- A tree has the stored parts of one world.
abbrev pub HasOneStore : Type 0
HasOneStore = (W X : World) (tree : Tree) → HasStore W tree → HasStore X tree → IsSameStore W X
