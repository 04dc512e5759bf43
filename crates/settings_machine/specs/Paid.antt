-- Paid files: each is what its template renders to, or it is due.
use Rattle.std.specs.Prelude.{◌≡◌, ◌⊎◌, ℕ, true, List, Some, IsSome, Ok}
use Rattle.std.specs.FinMap.{get}
use Rattle.outside.specs.Names.{Names}
use Rattle.key_names.specs.Key.{is_prefix}
use Rattle.settings_tree.specs.Content.{settings_key}
use Rattle.settings_tree.specs.declared.entry.Owed.{Owed}
use Rattle.settings_tree.specs.declared.entry.Owed.TheVariants.{All, Keys}
use Rattle.settings_tree.specs.declared.held.Held.{Held}
use Rattle.settings_maps.specs.KeyList.{has_key}
use Rattle.metadata_links.specs.Links.{files_of}
use Rattle.metadata_links.specs.Manifest.{IsManifestOf}
use Rattle.typed_settings.specs.Order.{IsTable}
use Rattle.settings_machine.specs.World.{Key, Among, Image, Work, Job, Idle, Failed, Running, World, path_of, rendered, due}
use Rattle.settings_machine.specs.Typed.{HasTypedSettings, IsTypedHeld}
use Rattle.settings_machine.specs.Covered.{IsCovered}
use Rattle.settings_machine.specs.Events.{Event, has_booted}

-- The file is one of those that are due.
abbrev pub IsDue : Image → Held → List ℕ → Type 0
IsDue I held f = Among (files_of I.manifest (due I held)) f

-- The path is that of a file which is due.
pub record IsDuePath (I : Image) (held : Held) (path : Names) : Type 0 where
  pub file : List ℕ
  pub due : IsDue I held file
  pub path_is : path ≡ path_of I file

-- The file is what its template renders to from scratch.
pub record IsCurrent (I : Image) (W : World) (f : List ℕ) : Type 0 where
  pub bytes : List ℕ
  pub renders : rendered I f W.held.live ≡ Ok bytes
  pub stands : get W.etc (path_of I f) ≡ Some bytes

-- The keys are among those that are owed.
abbrev pub IsWithin : List Key → Owed → Type 0
IsWithin keys All = Unit {0}
IsWithin keys (Keys owed) = (key : Key) → has_key keys key ≡ true → has_key owed key ≡ true

-- ---- a running job

-- Its files to do are among those of what is owed, and the keys that it noted are owed.
pub record JobOwes (I : Image) (W : World) (w : Work) : Type 0 where
  pub to_do : (f : List ℕ) → Among w.files f → Among (files_of I.manifest W.held.owed) f
  pub since : IsWithin w.since W.held.owed

-- A running job does only what is owed.
abbrev pub RunningOwes : Image → World → Job → Type 0
RunningOwes I W Idle = Unit {0}
RunningOwes I W (Failed c) = Unit {0}
RunningOwes I W (Running w) = JobOwes I W w

-- The file is current, or a running job has still to do it, or it is one of those of the keys that the job noted.
abbrev pub RunningPays : Image → World → List ℕ → Job → Type 0
RunningPays I W f Idle = Unit {0}
RunningPays I W f (Failed c) = Unit {0}
RunningPays I W f (Running w) = IsCurrent I W f ⊎ (Among w.files f ⊎ Among (files_of I.manifest (Keys w.since)) f)

-- ---- worlds

-- The world is typed, the stored image text is that of the image, and a running job does only what is owed.
pub record IsFit (I : Image) (W : World) : Type 0 where
  pub typed : IsTypedHeld I.types W.held
  pub image : W.held.image ≡ I.text
  pub job : RunningOwes I W W.job

-- The file is current or due, and a running job pays it.
pub record IsPaid (I : Image) (W : World) (f : List ℕ) : Type 0 where
  pub now : IsCurrent I W f ⊎ IsDue I W.held f
  pub job : RunningPays I W f W.job

-- Each covered file is paid.
abbrev pub Paid : Image → World → Type 0
Paid I W = (f : List ℕ) → IsCovered I f → IsPaid I W f

-- The file was paid in W, or after one of the events all is owed.
abbrev pub WasPaid : Image → World → List Event → List ℕ → Type 0
WasPaid I W events f = IsPaid I W f ⊎ (has_booted I W events ≡ true)

-- ---- images

-- The image is one that is read: no two rows of its types meet, the manifest is that of its defaults, whose settings are
-- typed, and only keys that begin with `settings` have lists of services.
pub record IsGood (I : Image) : Type 0 where
  pub table : IsTable I.types
  pub manifest : IsManifestOf I.defaults I.manifest
  pub defaults : HasTypedSettings I.types I.defaults
  pub listed : (key : Key) → IsSome (get I.manifest.index key) → is_prefix settings_key key ≡ true
