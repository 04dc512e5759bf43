-- A host's life: runs of the program on one disk, one after another, with crashes, and with images that are laid between two runs.
use Rattle.std.proofs.Common.{inl, inr, sym, take-append-drop}
use Rattle.std.specs.Prelude.{◌≡◌, ◌⊎◌, ◌++◌, ℕ, ◌≤◌, Bool, true, false, List, [], ◌∷◌, Option, Some, length, take, drop, OnOk}
use Rattle.std.specs.FinMap.{get}
use Rattle.std.specs.Str.{bytes_eq}
use Rattle.outside.specs.Names.{Names}
use Rattle.outside.specs.Tree.{Tree, node_at, file_in}
use Rattle.outside.specs.History.{synced, History, begun, next as then, tree_of, IsCrashState, IsSettled, IsSettledOn}
use Rattle.outside.specs.Since.{EachSince, clock}
use Rattle.settings_tree.specs.declared.held.Held.{Held}
use Rattle.held_text.specs.Dump.{SpellsDump}
use Rattle.settings_machine.specs.World.{Image, World, Files, Idle, owes_none, is_etc}
use Rattle.settings_machine.specs.Covered.{IsCovered}
use Rattle.settings_machine.specs.Events.{Event, Began, Moved, next, after, acknowledges_any, has_booted}
use Rattle.settings_machine.specs.Paid.{IsDuePath, IsPaid, WasPaid, Paid, IsGood}
use Rattle.machine_disk.specs.Kept.{Folder, DiskAt}
use Rattle.machine_disk.specs.Store.{is_image, bytes_at}
use Rattle.store_open.specs.Laws.{IsImageOfFolder}
use Rattle.version_links.specs.Chain.{Resolves, nowhere}
use Rattle.version_links.specs.declared.version.Version.{Version}
use Rattle.store_events.specs.Laws.{IsBare}
use Rattle.command_words.specs.Orders.{Order, Spells, SpellsNone, init, set, apply, restore}
use Rattle.settings_cmd.specs.Does.{Devices}
use Rattle.settings_run.specs.Laws.{Begins}
use Rattle.settings_run.specs.Headline.{StandsPaid, acknowledges_all, IsRun, RunsOver, ChangesBy, Headline}

-- ---- what happens to a disk

-- One run of the program over a disk that tells its history: words, exit status and what the devices tell, of which the headline holds.
pub record Invocation : Type 0 where
  pub words : List (List ℕ)
  pub status : ℕ
  pub before : Devices
  pub now : Devices
  pub output_before : Option (List ℕ)
  pub output_now : Option (List ℕ)
  pub promised : Headline words status before now output_before output_now
  pub old : History
  pub new : History
  pub told_before : before.disk ≡ Some old
  pub told_now : now.disk ≡ Some new

-- How a run ends, and how the disk is then: as the run left it; or the run ended and the disk was synced; or the run was killed at a moment, and the
-- disk was synced; or a crash came at a moment of the run, or at its end, and left this tree.
pub data Ending : Type 0 where
  Left : Ending
  Synced : Ending
  Killed : History → Ending
  Crashed : History → Tree → Ending

-- What a disk goes through: a run that orders this, a run whose words order nothing, and the laying of an image in the folder.
pub data Passage : Type 0 where
  Ran : Invocation → Order → Ending → Passage
  Misused : Invocation → Passage
  Laid : Image → Folder → History → Passage

-- The disk with which the next run begins.
abbrev pub disk_after : History → Ending → History
disk_after new Left = new
disk_after new Synced = then synced new
disk_after new (Killed at) = then synced at
disk_after new (Crashed at crashed) = begun crashed

-- The moment to which the run went.
abbrev pub moment_of : History → Ending → History
moment_of new Left = new
moment_of new Synced = new
moment_of new (Killed at) = at
moment_of new (Crashed at crashed) = at

-- The second goes on from the first.
abbrev pub IsLater : History → History → Type 0
IsLater old new = EachSince (λ crashed. Unit {0}) old new

-- A command other than `serve` has ended with exit status 0.
abbrev pub HasEndedWell : Order → Invocation → Type 0
HasEndedWell order run = (acknowledges_all order ≡ true) × (run.status ≡ 0)

-- The disk is at one world alone, as after a `serve` in which no call of the disk failed.
pub record IsAtOne (I : Image) (folder : Folder) (h : History) : Type 0 where
  pub world : World
  pub disk : DiskAt I folder world world h

-- When it may end so: the next run may follow as it is where a command has ended well, or the disk is at one world alone. A crash may come at any
-- moment, and leaves what it might have left then.
abbrev pub MayEnd : Image → Folder → Order → Invocation → Ending → Type 0
MayEnd I folder order run Left = HasEndedWell order run ⊎ IsAtOne I folder run.new
MayEnd I folder order run Synced = Unit {0}
MayEnd I folder order run (Killed at) = IsLater run.old at × IsLater at run.new
MayEnd I folder order run (Crashed at crashed) = IsLater run.old at × IsLater at run.new × IsCrashState at crashed

-- The image is laid on a disk that a crash leaves as it is, and so it is afterwards. No path is touched but those of the image's folder.
pub record IsLaid (J : Image) (below : Folder) (old new : History) : Type 0 where
  pub good : IsGood J
  pub made : IsImageOfFolder J below
  pub before : IsSettled old
  pub now : IsSettled new
  pub image : (path : Names) → is_image path ≡ true → bytes_at (tree_of new) path ≡ below path
  pub elsewhere : (path : Names) → is_image path ≡ false → node_at (tree_of new) path ≡ node_at (tree_of old) path

-- These passages follow each other on a disk, over the image in the folder.
abbrev pub IsLife : Image → Folder → History → List Passage → Type 0
IsLife I folder h [] = Unit {0}
IsLife I folder h (Ran run order ending ∷ rest) = (run.old ≡ h) × Spells run.words order × MayEnd I folder order run ending
    × IsLife I folder (disk_after run.new ending) rest
IsLife I folder h (Misused run ∷ rest) = (run.old ≡ h) × SpellsNone run.words × IsLife I folder run.new rest
IsLife I folder h (Laid J below new ∷ rest) = IsLaid J below h new × IsLife J below new rest

-- ---- what it is of the machine

-- What a life has of a run: the events that are kept, and the configuration files with which the next run begins.
pub record Part : Type 0 where
  pub events : List Event
  pub etc : Files

-- The world with which it begins: after the events, with these files, and no job.
abbrev pub world_after : Image → World → Part → World
world_after I W part = record (after I W part.events) { job = Idle; etc = part.etc }

-- The world to which the parts lead, one after another.
abbrev pub led : Image → World → List Part → World
led I W [] = W
led I W (part ∷ rest) = led I (world_after I W part) rest

-- The run is one of the machine's events.
abbrev pub IsRunOf : Order → Image → Folder → World → Invocation → Type 0
IsRunOf order I folder W run = IsRun order I folder W run.before run.now run.promised.outcome run.old run.new

-- The first so many of its events had been made by a moment.
abbrev pub IsMadeBy : (order : Order) (I : Image) (folder : Folder) (W : World) (run : Invocation) → IsRunOf order I folder W run → History → ℕ → Type 0
IsMadeBy order I folder W run r at number =
    clock (r.crashes.keeps (take number r.events) (drop number r.events) (sym (take-append-drop number r.events))).then_is ≤ clock at

-- The run went no further than to the moment, which has cut its events to these first ones. None is lost that was acknowledged by then; and none at all
-- where a command other than `serve` had ended with exit status 0.
pub record IsCut (order : Order) (I : Image) (folder : Folder) (W : World) (run : Invocation) (r : IsRunOf order I folder W run) (at : History)
    (kept : List Event) : Type 0 where
  pub rest : List Event
  pub whole : r.events ≡ kept ++ rest
  pub keeps : (number : ℕ) → number ≤ length r.events → IsMadeBy order I folder W run r at number → (lost : List Event)
      → take number r.events ≡ kept ++ lost → acknowledges_any I (after I W kept) lost ≡ false
  pub ended_well : HasEndedWell order run → clock run.new ≤ clock at → rest ≡ []

-- What is kept of a run: all its events, or those before the cut where it was killed or a crash came; and of a change at once that the disk failed,
-- the change or nothing.
abbrev pub Keeps : (order : Order) (I : Image) (folder : Folder) (W : World) (run : Invocation)
    → RunsOver order I folder W run.before run.now run.promised.outcome run.old run.new → Ending → List Event → Type 0
Keeps order I folder W run (inl r) Left kept = kept ≡ r.events
Keeps order I folder W run (inl r) Synced kept = kept ≡ r.events
Keeps order I folder W run (inl r) (Killed at) kept = IsCut order I folder W run r at kept
Keeps order I folder W run (inl r) (Crashed at crashed) kept = IsCut order I folder W run r at kept
Keeps order I folder W run (inr fails) ending kept = (kept ≡ []) ⊎ ChangesBy order folder W kept

-- The run is the machine's, as the headline has it; this part of it is kept. The configuration files are those of the world after its events,
-- but for some that are due there. The next run may begin there. Each covered file that was paid, and after a boot each, is paid.
pub record IsPart (order : Order) (I : Image) (folder : Folder) (W : World) (run : Invocation) (ending : Ending) (part : Part) : Type 0 where
  pub is : RunsOver order I folder W run.before run.now run.promised.outcome run.old run.new
  pub keeps : Keeps order I folder W run is ending part.events
  pub etc : (path : Names) → is_etc path ≡ true
      → (get part.etc path ≡ get (after I W part.events).etc path) ⊎ IsDuePath I (after I W part.events).held path
  pub begins : Begins I folder (world_after I W part) (disk_after run.new ending)
  pub paid : (file : List ℕ) → IsCovered I file → WasPaid I W part.events file → StandsPaid I (world_after I W part) file

-- Where an image of another text was laid, all is due.
abbrev pub IsPaidAnew : Image → World → Type 0
IsPaidAnew J W = bytes_eq W.held.image J.text ≡ false → Paid J W

-- The parts are those of the passages, one after another, from W on: one list of the machine's events.
abbrev pub LivesBy : Image → Folder → World → List Passage → List Part → Type 0
LivesBy I folder W [] [] = Unit {0}
LivesBy I folder W [] (part ∷ parts) = ⊥
LivesBy I folder W (Ran run order ending ∷ rest) [] = ⊥
LivesBy I folder W (Ran run order ending ∷ rest) (part ∷ parts) = IsPart order I folder W run ending part × LivesBy I folder (world_after I W part) rest parts
LivesBy I folder W (Misused run ∷ rest) parts = (run.new ≡ run.old) × LivesBy I folder W rest parts
LivesBy I folder W (Laid J below new ∷ rest) parts = IsPaidAnew J W × LivesBy J below W rest parts

-- ---- the theorem

-- The disk is at W alone, with an idle job, and a crash leaves the files of a good image in its folder.
pub record Rests (I : Image) (folder : Folder) (W : World) (h : History) : Type 0 where
  pub good : IsGood I
  pub made : IsImageOfFolder I folder
  pub begins : Begins I folder W h
  pub image : IsSettledOn is_image h

-- Each life from a world on is one list of the machine's events.
abbrev pub LivesAreRuns : Type 0
LivesAreRuns = (I : Image) (folder : Folder) (W : World) (h : History) (passages : List Passage) → Rests I folder W h → IsLife I folder h passages
    → (parts : List Part) × LivesBy I folder W passages parts

-- ---- a life from its start

-- The disk has no store, and a crash leaves it as it is, with the files of a good image in its folder.
pub record IsEmpty (I : Image) (folder : Folder) (W : World) (h : History) : Type 0 where
  pub good : IsGood I
  pub made : IsImageOfFolder I folder
  pub bare : IsBare W h
  pub image : (path : Names) → is_image path ≡ true → bytes_at (tree_of h) path ≡ folder path

-- The order is to begin a store.
abbrev pub IsToBegin : Order → Type 0
IsToBegin (init version) = Unit {0}
IsToBegin (restore path) = Unit {0}
IsToBegin _ = ⊥

-- Where no store is, an `init` or a `restore` is run.
abbrev pub BeginsStores : List Passage → Type 0
BeginsStores [] = Unit {0}
BeginsStores (Ran run order ending ∷ rest) = (Resolves (tree_of run.old) nowhere → IsToBegin order) × BeginsStores rest
BeginsStores (Misused run ∷ rest) = BeginsStores rest
BeginsStores (Laid J below new ∷ rest) = BeginsStores rest

-- The file at the path spelled the dump of this event.
pub record IsRestoring (path : Names) (run : Invocation) (event : Event) : Type 0 where
  pub text : List ℕ
  pub version : Version
  pub held : Held
  pub there : file_in (node_at (tree_of run.old) path) ≡ Some text
  pub spelled : SpellsDump text version held
  pub event_is : event ≡ Moved version held

-- By this event the run begins a store: nothing is held, or what the dump holds; and all is owed.
abbrev pub IsBeginningBy : Order → Invocation → Event → Type 0
IsBeginningBy (init version) run event = event ≡ Began version
IsBeginningBy (restore path) run event = IsRestoring path run event
IsBeginningBy _ run event = ⊥

-- The run has begun a store, which is one event: the next run may begin at the world after it, in which each covered file is paid.
pub record HasBegunStore (I : Image) (folder : Folder) (W : World) (run : Invocation) (order : Order) (ending : Ending) : Type 0 where
  pub event : Event
  pub is : IsBeginningBy order run event
  pub begins : Begins I folder (next I W event) (disk_after run.new ending)
  pub paid : Paid I (next I W event)

-- It has begun none: it did not end well, or was killed before its end, or a crash came before.
pub record HasNoStore (run : Invocation) (ending : Ending) : Type 0 where
  pub none : Resolves (tree_of (disk_after run.new ending)) nowhere
  pub fails : clock run.new ≤ clock (moment_of run.new ending) → OnOk run.promised.outcome ⊥

-- Some runs begin no store, then one does, and the parts are those of the passages that follow.
abbrev pub LivesFromNone : Image → Folder → World → List Passage → List Part → Type 0
LivesFromNone I folder W [] parts = parts ≡ []
LivesFromNone I folder W (Ran run order ending ∷ rest) parts = (HasNoStore run ending × LivesFromNone I folder W rest parts)
    ⊎ ((begun : HasBegunStore I folder W run order ending) × LivesBy I folder (next I W begun.event) rest parts)
LivesFromNone I folder W (Misused run ∷ rest) parts = (run.new ≡ run.old) × LivesFromNone I folder W rest parts
LivesFromNone I folder W (Laid J below new ∷ rest) parts = LivesFromNone J below W rest parts

-- So is each life that begins without a store.
abbrev pub NewLivesAreRuns : Type 0
NewLivesAreRuns = (I : Image) (folder : Folder) (W : World) (h : History) (passages : List Passage) → IsEmpty I folder W h → IsLife I folder h passages
    → BeginsStores passages → (parts : List Part) × LivesFromNone I folder W passages parts

-- ---- files over a life

-- No image is laid.
abbrev pub LaysNone : List Passage → Type 0
LaysNone [] = Unit {0}
LaysNone (Ran run order ending ∷ rest) = LaysNone rest
LaysNone (Misused run ∷ rest) = LaysNone rest
LaysNone (Laid J below new ∷ rest) = ⊥

-- After one of the events of the parts all is owed.
abbrev pub HasBooted : Image → World → List Part → Type 0
HasBooted I W [] = ⊥
HasBooted I W (part ∷ rest) = (has_booted I W part.events ≡ true) ⊎ HasBooted I (world_after I W part) rest

-- Over one image each covered file that was paid at the start, and after a boot each, is paid at the end of the life; so where nothing is due it is
-- what its template renders to from scratch.
abbrev pub FilesLast : Type 0
FilesLast = (I : Image) (folder : Folder) (W : World) (passages : List Passage) (parts : List Part) → LivesBy I folder W passages parts
    → LaysNone passages → (file : List ℕ) → IsCovered I file → IsPaid I W file ⊎ HasBooted I W parts → StandsPaid I (led I W parts) file

-- ---- what a command pays that ended well

-- The order is to apply: a `set`, or an `apply`.
abbrev pub is_to_apply : Order → Bool
is_to_apply (set pairs) = true
is_to_apply (apply all) = true
is_to_apply _ = false

-- After exit status 0 of such a run nothing is owed in the world at which the disk is, alone, and at which the next run may begin.
abbrev pub PaysAll : Type 0
PaysAll = (run : Invocation) (order : Order) → Spells run.words order → is_to_apply order ≡ true → run.status ≡ 0
    → (I : Image) (folder : Folder) (W : World) → Rests I folder W run.old
    → (X : World) × Begins I folder X run.new × (owes_none X.held.owed ≡ true)
