-- Laws of beginnings, moves, readings and the forgetting of keys: what they make of the machine's run.
use Rattle.std.specs.Prelude.{◌≡◌, ◌≢◌, ◌⊎◌, ℕ, false, List, [], ◌∷◌, Option, Some, None, Result, Ok, Err}
use Rattle.outside.specs.History.{History, tree_of, EachCrashState, IsSettled}
use Rattle.outside.specs.Since.{EachSince}
use Rattle.settings_tree.specs.declared.entry.Owed.TheVariants as owed
use Rattle.settings_tree.specs.declared.held.Held.{Held}
use Rattle.pending_tx.specs.Transactions.{rising}
use Rattle.version_links.specs.Chain.{Resolves, nowhere}
use Rattle.version_links.specs.declared.version.Version.{Version}
use Rattle.release_file.specs.Chain.{is_back, IsWay}
use Rattle.release_file.specs.declared.transition.Transition.{Transition}
use Rattle.release_file.specs.declared.work.Named.{Named}
use Rattle.settings_machine.specs.World.{Key, Image, World, is_running}
use Rattle.settings_machine.specs.Events.{Event, Moved, Forgot, next}
use Rattle.settings_machine.specs.Paid.{Paid, IsGood}
use Rattle.machine_disk.specs.Store.{bytes_at, HasFiles, Recovers}
use Rattle.machine_disk.specs.Kept.{Folder, DiskAt}
use Rattle.machine_disk.specs.Touched.{TouchesOwn}
use Rattle.machine_disk.specs.Ran.{IsWorldOf, LeavesPaid, RunsTo}
use Rattle.store_open.specs.Beginning.{Begins}
use Rattle.store_open.specs.Reading.{Reads}
use Rattle.store_open.specs.Forgetting.{Forgets, first_unheld}
use Rattle.store_open.specs.declared.begin_error.InitError.{InitError}
use Rattle.store_open.specs.declared.stored.Stored.{Stored}
use Rattle.store_open.specs.declared.open_error.OpenError.{OpenError}
use Rattle.store_open.specs.declared.open_error.OpenError.TheVariants as refused
use Rattle.store_open.specs.declared.forget_error.ForgetError.{ForgetError}
use Rattle.store_open.specs.declared.forget_error.ForgetError.TheVariants as forget
use Rattle.migrate_chain.specs.Migrating.{Migrates}
use Rattle.migrate_chain.specs.Moving.{IsCarried}
use Rattle.migrate_chain.specs.Pruning.{Prunes}
use Rattle.migrate_chain.specs.Tasks.{Mapped, Refused, tasks_of}
use Rattle.migrate_chain.specs.declared.moving.Moved as answer
use Rattle.migrate_chain.specs.declared.move_error.MoveError.{MoveError}
use Rattle.migrate_chain.specs.declared.move_error.MoveError.TheVariants.{Failed}
use Rattle.migrate_chain.specs.declared.prune_error.PruneError.{PruneError}

-- ---- beginnings

-- The disk is settled and has no store, and its configuration files are the world's.
pub record IsBare (W : World) (h : History) : Type 0 where
  pub none : Resolves (tree_of h) nowhere
  pub etc : HasFiles W.etc (tree_of h)
  pub settled : IsSettled h

-- A crash at any moment leaves no store, or what recovers to N; and a world that it leaves is paid.
pub record IsBeginning (I : Image) (N : World) (old new : History) : Type 0 where
  pub any_moment : EachSince (λ c. Resolves c nowhere ⊎ Recovers I N c) old new
  pub crash_paid : EachSince (λ c. (X : World) → IsWorldOf c X → Paid I X) old new

-- The disk is at N alone, which is paid, and a crash leaves what recovers to it.
pub record HasBegun (I : Image) (folder : Folder) (N : World) (h : History) : Type 0 where
  pub disk : DiskAt I folder N N h
  pub paid : Paid I N
  pub at_exit : EachCrashState (Recovers I N) h

-- Whatever a beginning comes to, a crash leaves no store, or the machine's world after `Moved`; that is the one after `Began` where nothing is held.
abbrev pub BeginningsAreWhole : Type 0
BeginningsAreWhole = (I : Image) → IsGood I → (W : World) (version : Version) (held : Held) (result : Result (Unit {0}) InitError) (old new : History)
    → IsBare W old → Begins version (record held { owed = owed.All }) result old new → IsBeginning I (next I W (Moved version held)) old new

-- A beginning that is answered is that event; the files of the image are those that were there.
abbrev pub BeginningsBegin : Type 0
BeginningsBegin = (I : Image) → IsGood I → (W : World) (version : Version) (held : Held) (done : Unit {0}) (old new : History) → IsBare W old
    → Begins version (record held { owed = owed.All }) (Ok done) old new → HasBegun I (bytes_at (tree_of old)) (next I W (Moved version held)) new

-- ---- moves

-- The migrations of the way to the version make this of what the world holds, as the mapper has kept.
pub record IsMade (W : World) (to : Version) (transitions : List Transition) (migrations : List Named) (before after : Option (List Mapped))
    (made : Held) : Type 0 where
  pub way : List Transition
  pub is_way : IsWay transitions W.version to way
  pub carried : IsCarried (tasks_of migrations (is_back W.version to) way) W.held before after made

-- A crash at any moment leaves what recovers to W, with each covered file paid that was; or to the world after a move, with each paid.
pub record IsMoving (I : Image) (W : World) (to : Version) (transitions : List Transition) (migrations : List Named) (before now : Option (List Mapped))
    (old new : History)
    : Type 0 where
  pub any_moment : EachSince (λ c. LeavesPaid I W [] c ⊎ ((made : Held) × IsMade W to transitions migrations before now made
      × LeavesPaid I W (Moved to made ∷ []) c)) old new

-- The events of a move: none where the store is at the version, in format 2, and else one.
abbrev pub MoveEvents : World → Version → List Transition → List Named → Option (List Mapped) → Option (List Mapped) → List Event → Type 0
MoveEvents W to transitions migrations before now events = ((W.version ≡ to) × (W.format ≡ 2) × (events ≡ []))
    ⊎ ((made : Held) × IsMade W to transitions migrations before now made × (events ≡ Moved to made ∷ []))

-- The store was moved by these events.
pub record HasMoved (I : Image) (folder : Folder) (W : World) (to : Version) (transitions : List Transition) (migrations : List Named)
    (before now : Option (List Mapped))
    (old new : History) : Type 0 where
  pub events : List Event
  pub form : MoveEvents W to transitions migrations before now events
  pub runs : RunsTo I folder W events old new

-- No event happened.
abbrev pub HasStayed : Image → Folder → World → History → History → Type 0
HasStayed I folder W old new = RunsTo I folder W [] old new

-- Whatever a move comes to, a crash leaves the store as it was, or as it is after the event `Moved`.
abbrev pub MovesAreWhole : Type 0
MovesAreWhole = (I : Image) → IsGood I → (folder : Folder) (W : World) (to : Version) (transitions : List Transition) (migrations : List Named)
    (before now : Option (List Mapped))
    (refused_before refused_now : Option (List Refused)) (result : Result answer.Moved MoveError) (old new : History) → DiskAt I folder W W old
    → Migrates to transitions migrations before now refused_before refused_now result old new → IsMoving I W to transitions migrations before now old new

-- A move that is answered is one event, or none, where the mapper keeps what it made.
abbrev pub MovesMove : Type 0
MovesMove = (I : Image) → IsGood I → (folder : Folder) (W : World) (to : Version) (transitions : List Transition) (migrations : List Named) (kept : List Mapped)
    (now : Option (List Mapped))
    (refused_before refused_now : Option (List Refused)) (moved : answer.Moved) (old new : History) → DiskAt I folder W W old
    → Migrates to transitions migrations (Some kept) now refused_before refused_now (Ok moved) old new
    → HasMoved I folder W to transitions migrations (Some kept) now old new

-- A move that is refused is none, unless the disk failed.
abbrev pub RefusedMovesStay : Type 0
RefusedMovesStay = (I : Image) → IsGood I → (folder : Folder) (W : World) (to : Version) (transitions : List Transition) (migrations : List Named)
    (before now : Option (List Mapped))
    (refused_before refused_now : Option (List Refused)) (error : MoveError) (old new : History) → error ≢ Failed → DiskAt I folder W W old
    → Migrates to transitions migrations before now refused_before refused_now (Err error) old new → HasStayed I folder W old new

-- ---- what is no event

-- A disk that is as before is no event.
abbrev pub SameDisksStay : Type 0
SameDisksStay = (I : Image) → IsGood I → (folder : Folder) (W : World) (h : History) → DiskAt I folder W W h → HasStayed I folder W h h

-- A pruning is none, whatever it comes to.
abbrev pub PruningsStay : Type 0
PruningsStay = (I : Image) → IsGood I → (folder : Folder) (W : World) (result : Result ℕ PruneError) (old new : History) → DiskAt I folder W W old
    → Prunes result old new → HasStayed I folder W old new

-- A reading is none, whatever it comes to.
abbrev pub ReadingsStay : Type 0
ReadingsStay = (I : Image) → IsGood I → (folder : Folder) (W : World) (result : Result Stored OpenError) (old new : History) → DiskAt I folder W W old
    → Reads result old new → HasStayed I folder W old new

-- What was read is the world's, which is of format 2; or the disk or memory failed it, or the store is of format 1. No other refusal comes.
abbrev pub TellsOf : World → Result Stored OpenError → Type 0
TellsOf W (Ok stored) = (stored.place.version ≡ W.version) × (stored.held ≡ W.held) × (W.format ≡ 2)
TellsOf W (Err refused.Failed) = Unit {0}
TellsOf W (Err refused.Memory) = Unit {0}
TellsOf W (Err (refused.OldFormat directory)) = W.format ≡ 1
TellsOf W (Err _) = ⊥

-- Where the disk is at a world, a reading tells of it.
abbrev pub ReadingsTell : Type 0
ReadingsTell = (I : Image) (folder : Folder) (W : World) (result : Result Stored OpenError) (old new : History) → DiskAt I folder W W old
    → Reads result old new → TellsOf W result

-- It touches only what is below the data directory, whatever is there.
abbrev pub ReadingsTouchOwn : Type 0
ReadingsTouchOwn = (I : Image) (result : Result Stored OpenError) (old new : History) → Reads result old new → TouchesOwn I [] old new

-- ---- the forgetting of keys

-- The event.
abbrev pub forgot : List Key → List Event
forgot keys = Forgot (rising keys) ∷ []

-- A crash at any moment leaves what recovers to W, with each covered file paid that was; or so to the world after the event.
abbrev pub IsForgetting : Image → World → List Key → History → History → Type 0
IsForgetting I W keys old new = EachSince (λ c. LeavesPaid I W [] c ⊎ LeavesPaid I W (forgot keys) c) old new

-- Answered, it is the event, and each key had a value. Where a key had none, the first such is told, and it is none. Where the store or the disk
-- refused it, that tells of the store as a reading does, and it is none unless the disk failed.
abbrev pub HasForgot : Image → Folder → World → List Key → Result (Unit {0}) ForgetError → History → History → Type 0
HasForgot I folder W keys (Ok done) old new = (first_unheld W.held keys ≡ None) × RunsTo I folder W (forgot keys) old new
HasForgot I folder W keys (Err (forget.NotHeld key)) old new = (first_unheld W.held keys ≡ Some key) × HasStayed I folder W old new
HasForgot I folder W keys (Err (forget.Store e)) old new = TellsOf W (Err e) × (e ≢ refused.Failed → HasStayed I folder W old new)

-- Whatever the forgetting of keys comes to where no job runs, a crash leaves the store as it was, or as it is after the event.
abbrev pub ForgettingsAreWhole : Type 0
ForgettingsAreWhole = (I : Image) → IsGood I → (folder : Folder) (W : World) (keys : List Key) (result : Result (Unit {0}) ForgetError) (old new : History)
    → is_running W.job ≡ false → DiskAt I folder W W old → Forgets keys result old new → IsForgetting I W keys old new

-- It is the event or none, as it is answered.
abbrev pub ForgettingsForget : Type 0
ForgettingsForget = (I : Image) → IsGood I → (folder : Folder) (W : World) (keys : List Key) (result : Result (Unit {0}) ForgetError) (old new : History)
    → is_running W.job ≡ false → DiskAt I folder W W old → Forgets keys result old new → HasForgot I folder W keys result old new

-- It touches no more than a reading.
abbrev pub ForgettingsTouchOwn : Type 0
ForgettingsTouchOwn = (I : Image) (keys : List Key) (result : Result (Unit {0}) ForgetError) (old new : History) → Forgets keys result old new
    → TouchesOwn I (forgot keys) old new
