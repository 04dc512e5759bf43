-- Laws of commands: what they make of the machine's run.
use Rattle.std.specs.Prelude.{◌≡◌, false, ℕ, List, Some, Ok}
use Rattle.outside.specs.History.{History}
use Rattle.settings_machine.specs.World.{Image, World, is_running}
use Rattle.settings_machine.specs.Paid.{IsGood}
use Rattle.machine_disk.specs.Kept.{Folder, DiskAt}
use Rattle.machine_disk.specs.Ran.{OpensTo}
use Rattle.store_open.specs.Laws.{IsImageOfFolder, HoldsImage}
use Rattle.store_open.specs.declared.opened.Opened.{Opened}
use Rattle.settings_cmd.specs.Carried.{IsGot, IsPruned}
use Rattle.settings_cmd.specs.Gets.{Answers}
use Rattle.settings_cmd.specs.Prunes.{pruned_line}

-- A store was opened as the machine opens it, and the line answers from what is held then.
pub record IsOpening (I : Image) (folder : Folder) (W V : World) (keys : List (List (List ℕ))) (line : List ℕ) (old new : History) : Type 0 where
  pub store : Opened
  pub opens : OpensTo I folder W V false store.place store.held old new
  pub image : HoldsImage I store.image
  pub answers : Answers store.held.live.values keys (Ok line)

-- Where the disk is at W, which has no running job, and the folder makes the image, a `get` that answers is an opening.
abbrev pub GettingsOpen : Type 0
GettingsOpen = (I : Image) → IsGood I → (folder : Folder) → IsImageOfFolder I folder → (W V : World) (keys : List (List (List ℕ))) (line : List ℕ)
    (old new : History)
    → DiskAt I folder W V old → is_running W.job ≡ false → IsGot keys (Ok line) (Some old) (Some new) → IsOpening I folder W V keys line old new

-- Where a `prune` has ended well, the next one over the disk that it left finds nothing to remove, if it ends well too.
abbrev pub PrunesOnce : Type 0
PrunesOnce = (first line : List ℕ) (old mid new : History) → IsPruned (Ok first) (Some old) (Some mid) → IsPruned (Ok line) (Some mid) (Some new)
    → line ≡ pruned_line 0
