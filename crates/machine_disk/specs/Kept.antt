-- What holds of the disk and of the core between two events.
use Rattle.std.specs.Prelude.{◌≡◌, ◌⊎◌, ℕ, List, Bool, true, false, Option}
use Rattle.std.specs.FinMap.{get}
use Rattle.outside.specs.Names.{Names}
use Rattle.outside.specs.Tree.{Node, file_in}
use Rattle.outside.specs.History.{History, tree_of, MayLeave, EachCrashState}
use Rattle.settings_tree.specs.declared.held.Held.{Held}
use Rattle.settings_machine.specs.World.{Image, World, Job, is_running, is_etc}
use Rattle.settings_machine.specs.Paid.{IsDuePath, IsFit}
use Rattle.version_links.specs.declared.chain.Place.{Place}
use Rattle.machine_disk.specs.Store.{is_image, bytes_at, HasFiles, HasStore, IsReadyAt}

-- The files of the image's folder by path, which no call writes.
abbrev pub Folder : Type 0
Folder = Names → Option (List ℕ)

-- The disk is at W: its store and its configuration files are W's. A crash state has W's store or V's, and what a crash leaves at a
-- path of a configuration file is W's, or the path is that of one that is due in both. Where V is W the disk is at W alone.
pub record DiskAt (I : Image) (folder : Folder) (W V : World) (h : History) : Type 0 where
  pub store : HasStore W (tree_of h)
  pub etc : HasFiles W.etc (tree_of h)
  pub image : (path : Names) → is_image path ≡ true → bytes_at (tree_of h) path ≡ folder path
  pub crash_states : EachCrashState (λ c. HasStore W c ⊎ HasStore V c) h
  pub same_etc : V.etc ≡ W.etc
  pub unsettled : (path : Names) (node : Option Node) → is_etc path ≡ true → MayLeave h path node
      → (file_in node ≡ get W.etc path) ⊎ (IsDuePath I W.held path × IsDuePath I V.held path)

-- What the core has in memory; `faulted` from a failed call of the disk until an opening has succeeded.
pub record CoreState : Type 0 where
  pub place : Place
  pub held : Held
  pub job : Job
  pub faulted : Bool

-- The core is at W: it has W's job. Where no call of the disk has failed since the last opening that succeeded, the store is
-- ready at the core's place with what the core holds; else no job runs.
pub record CoreAt (W : World) (h : History) (state : CoreState) : Type 0 where
  pub job : state.job ≡ W.job
  pub ready : state.faulted ≡ false → IsReadyAt state.place state.held h
  pub still : state.faulted ≡ true → is_running state.job ≡ false

-- The disk and the core are at W, which is fit and of format 2. So a crash state may have V's store only while a failed call of
-- the disk has had no opening after it.
pub record Kept (I : Image) (folder : Folder) (W V : World) (h : History) (state : CoreState) : Type 0 where
  pub fit : IsFit I W
  pub format : W.format ≡ 2
  pub disk : DiskAt I folder W V h
  pub core : CoreAt W h state
