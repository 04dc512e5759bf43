-- Laws of openings: what one makes of the machine's run.
use Rattle.std.specs.Prelude.{◌≡◌, ℕ, List, [], ◌∷◌, codes, Bool, false, Result, Ok, Err}
use Rattle.outside.specs.History.{History, tree_of, IsSettled}
use Rattle.outside.specs.Since.{EachSince}
use Rattle.settings_tree.specs.declared.held.Held.{Held}
use Rattle.typed_settings.specs.Order.{IsTable}
use Rattle.model_file.specs.declared.model.Model.{Model}
use Rattle.metadata_links.specs.declared.manifest.Manifest.{Manifest}
use Rattle.template_reader.specs.declared.templates.Templates.{Templates}
use Rattle.store_image.specs.Image.{IsImageOf}
use Rattle.store_image.specs.declared.image.Image as own
use Rattle.settings_machine.specs.World.{Image, World, is_running}
use Rattle.settings_machine.specs.Opening.{opened_held}
use Rattle.settings_machine.specs.Paid.{IsGood}
use Rattle.settings_machine.specs.Seen.{Holds}
use Rattle.machine_disk.specs.Kept.{Folder, DiskAt}
use Rattle.machine_disk.specs.Touched.{TouchesOwn}
use Rattle.machine_disk.specs.Ran.{OnTheWay, OpensTo, OpensNot}
use Rattle.store_open.specs.World as stored
use Rattle.store_open.specs.World.{HasWorld}
use Rattle.store_open.specs.Step.{opened}
use Rattle.store_open.specs.Typed.{IsIllTyped}
use Rattle.store_open.specs.Opening.{HasEither, Opens}
use Rattle.store_open.specs.declared.opened.Opened.{Opened}
use Rattle.store_open.specs.declared.open_error.OpenError.{OpenError}
use Rattle.store_open.specs.declared.open_error.OpenError.TheVariants as refused

-- On a disk that was settled, each crash state since the start of the opening has the world before the step or the world after it.
abbrev pub OpensFromTheStart : Type 0
OpensFromTheStart = (boot : Bool) (result : Result Opened OpenError) (old new : History) (before : stored.World) → Opens boot result old new → IsSettled old
    → HasWorld before (tree_of old) → EachSince (HasEither boot (tree_of old) before) old new

-- The files of the image's folder make this image.
pub record IsImageOfFolder (I : Image) (folder : Folder) : Type 0 where
  pub model : Model
  pub manifest : Manifest
  pub templates : Templates
  pub made : IsImageOf (λ path. folder (codes "image" ∷ path)) model manifest templates I.text
  pub holds : Holds I model.types model.os model.content manifest templates I.text

-- What was read is the machine's image.
abbrev pub HoldsImage : Image → own.Image → Type 0
HoldsImage I image = Holds I image.model.types image.model.os image.model.content image.manifest image.templates image.text

-- Where the folder makes the parts of an image, and its types are a table, they are those of an image of the machine, which is good.
abbrev pub ImagesAreGood : Type 0
ImagesAreGood = (folder : Folder) (model : Model) (manifest : Manifest) (templates : Templates) (text : List ℕ) → IsTable model.types
    → IsImageOf (λ path. folder (codes "image" ∷ path)) model manifest templates text
    → (I : Image) × IsGood I × IsImageOfFolder I folder × Holds I model.types model.os model.content manifest templates text

-- With what was read of an image of the machine, the step is the machine's.
abbrev pub IsMachineStep : Type 0
IsMachineStep = (I : Image) (image : own.Image) → HoldsImage I image → (boot : Bool) (held : Held) → opened boot image held ≡ opened_held I held boot

-- The disk is at W alone, nothing else was on the way, and nothing but the data directory was touched.
pub record IsKeptAt (I : Image) (folder : Folder) (W V : World) (old new : History) : Type 0 where
  pub disk : DiskAt I folder W W new
  pub moments : EachSince (OnTheWay I W V []) old new
  pub touches : TouchesOwn I [] old new

-- What an opening makes of the machine's run: it succeeded, and what was read is the image; or the disk or memory failed it; or the
-- store is of format 1 or ill typed, and all that was done is that its journal was carried out. No other refusal comes.
abbrev pub HasRun : Image → Folder → World → World → Bool → Result Opened OpenError → History → History → Type 0
HasRun I folder W V boot (Ok store) old new = OpensTo I folder W V boot store.place store.held old new × HoldsImage I store.image
HasRun I folder W V boot (Err refused.Failed) old new = OpensNot I folder W V boot old new
HasRun I folder W V boot (Err refused.Memory) old new = OpensNot I folder W V boot old new
HasRun I folder W V boot (Err (refused.OldFormat directory)) old new = (W.format ≡ 1) × IsKeptAt I folder W V old new
HasRun I folder W V boot (Err (refused.IllTyped key)) old new = IsIllTyped I.types W.held key × IsKeptAt I folder W V old new
HasRun I folder W V boot (Err _) old new = ⊥

-- Where the disk is at W, which has no running job, and the folder makes the image, an opening makes a part of a run.
abbrev pub OpeningsRun : Type 0
OpeningsRun = (I : Image) → IsGood I → (folder : Folder) → IsImageOfFolder I folder → (W V : World) (boot : Bool) (result : Result Opened OpenError)
    (old new : History)
    → DiskAt I folder W V old → is_running W.job ≡ false → Opens boot result old new → HasRun I folder W V boot result old new

-- It was refused because of what is there, and neither the disk nor memory failed it.
abbrev pub IsRefusal : OpenError → Type 0
IsRefusal refused.Failed = ⊥
IsRefusal refused.Memory = ⊥
IsRefusal _ = Unit {0}

-- Where the disk is at W, all that a refusal has done is that a journal was carried out, whatever the image is.
abbrev pub RefusalsKeep : Type 0
RefusalsKeep = (I : Image) (folder : Folder) (W V : World) (boot : Bool) (e : OpenError) (old new : History) → DiskAt I folder W V old → IsRefusal e
    → Opens boot (Err e) old new → IsKeptAt I folder W V old new
