-- The laws of paid files.
use Rattle.std.specs.Prelude.{◌≡◌, ◌⊎◌, ℕ, Bool, true, false, List}
use Rattle.std.specs.FinMap.{get}
use Rattle.outside.specs.Names.{Names}
use Rattle.settings_tree.specs.declared.held.Held.{Held}
use Rattle.version_links.specs.declared.version.Version.{Version}
use Rattle.settings_machine.specs.World.{Image, World, owes_none, is_running, is_etc}
use Rattle.settings_machine.specs.Typed.{IsTypedHeld}
use Rattle.settings_machine.specs.Step.{opened}
use Rattle.settings_machine.specs.Events.{Event, Began, Moved, next, after, are_served}
use Rattle.settings_machine.specs.Paid.{IsDuePath, IsCurrent, IsPaid, Paid, WasPaid, IsFit, IsGood}
use Rattle.settings_machine.specs.Covered.{IsCovered}

-- Openings, requests and turns lead from a fit world to fit worlds alone.
abbrev pub FitStays : Type 0
FitStays = (I : Image) → IsGood I → (W : World) → IsFit I W → (events : List Event) → are_served events ≡ true → IsFit I (after I W events)

-- Files stay paid, each for itself: after openings, requests and turns from a fit world a covered file is paid that was, and after
-- a boot each is.
abbrev pub FilesStayPaid : Type 0
FilesStayPaid = (I : Image) → IsGood I → (W : World) → IsFit I W → (events : List Event) → are_served events ≡ true
    → (f : List ℕ) → IsCovered I f → WasPaid I W events f → IsPaid I (after I W events) f

-- An opening leads from a typed world in which no job runs to one that is fit.
abbrev pub OpeningsFit : Type 0
OpeningsFit = (I : Image) → IsGood I → (W : World) (boot : Bool) → IsTypedHeld I.types W.held → is_running W.job ≡ false → IsFit I (opened I W boot)

-- After an opening that meets no running job a covered file is paid that was, and at a boot each is.
abbrev pub OpeningsPay : Type 0
OpeningsPay = (I : Image) → IsGood I → (W : World) (boot : Bool) → is_running W.job ≡ false
    → (f : List ℕ) → IsCovered I f → IsPaid I W f ⊎ (boot ≡ true) → IsPaid I (opened I W boot) f

-- A beginning leads to a world that is paid.
abbrev pub BeginningsPay : Type 0
BeginningsPay = (I : Image) → IsGood I → (W : World) (version : Version) → Paid I (next I W (Began version))

-- A store that has begun is fit and paid once it is opened.
abbrev pub NewStoresAreKept : Type 0
NewStoresAreKept = (I : Image) → IsGood I → (W : World) (version : Version) (boot : Bool)
    → IsFit I (opened I (next I W (Began version)) boot) × Paid I (opened I (next I W (Began version)) boot)

-- A migration leads to a world that is paid.
abbrev pub MigrationsPay : Type 0
MigrationsPay = (I : Image) → IsGood I → (W : World) (version : Version) (held : Held) → Paid I (next I W (Moved version held))

-- In a world with another's held parts and an idle job, whose configuration files are the other's but for some that are due there,
-- a covered file is paid that is in the other.
abbrev pub CrashesPay : Type 0
CrashesPay = (I : Image) → IsGood I → (W X : World) → X.held ≡ W.held → is_running X.job ≡ false
    → ((path : Names) → is_etc path ≡ true → (get X.etc path ≡ get W.etc path) ⊎ IsDuePath I W.held path)
    → (f : List ℕ) → IsCovered I f → IsPaid I W f → IsPaid I X f

-- Whenever openings, requests and turns have led from a fit world to one in which nothing is owed, a covered file that was paid, and
-- after a boot each, is what its template renders to from scratch.
abbrev pub NothingOwedIsCurrent : Type 0
NothingOwedIsCurrent = (I : Image) → IsGood I → (W : World) → IsFit I W → (events : List Event) → are_served events ≡ true
    → owes_none (after I W events).held.owed ≡ true → (f : List ℕ) → IsCovered I f → WasPaid I W events f → IsCurrent I (after I W events) f
