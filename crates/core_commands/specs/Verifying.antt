-- What `verify` comes to, and what it makes of the machine's run.
use Rattle.std.specs.Prelude.{◌≡◌, ⊤, ℕ, Bool, true, false, List, [], ◌∷◌, Option, Result, Ok, Err}
use Rattle.std.specs.List.{list_all}
use Rattle.outside.specs.History.{History}
use Rattle.outside.specs.Told.{Moves}
use Rattle.settings_machine.specs.World.{Image, World}
use Rattle.settings_machine.specs.Requests.{Verify}
use Rattle.settings_machine.specs.Step as step
use Rattle.settings_machine.specs.Events.{Asked}
use Rattle.settings_machine.specs.Paid.{IsGood}
use Rattle.settings_machine.specs.Verified.{is_kept, verified}
use Rattle.settings_machine.specs.declared.states.VerifiedFile.{VerifiedFile}
use Rattle.machine_answers.specs.StateLines.{states_text}
use Rattle.machine_disk.specs.Kept.{Folder, CoreState, Kept}
use Rattle.machine_disk.specs.Ran.{Ran, Reopens}
use Rattle.store_open.specs.Laws.{HoldsImage}
use Rattle.store_open.specs.Opening.{Opens}
use Rattle.store_open.specs.declared.opened.Opened.{Opened}
use Rattle.store_open.specs.declared.open_error.OpenError.{OpenError}
use Rattle.command_outcome.specs.Ends.{Outcome}
use Rattle.command_outcome.specs.declared.refusal.Refusal.{Refusal}
use Rattle.command_outcome.specs.declared.refusal.Refusal.TheVariants as refused
use Rattle.core_commands.specs.Carried.{core_over}
use Rattle.core_commands.specs.Handing.{not_opened}

-- Whether the file is what its template renders to, or due.
abbrev pub is_kept_file : VerifiedFile → Bool
is_kept_file file = is_kept file.state

-- Whether each of them is.
abbrev pub are_kept : List VerifiedFile → Bool
are_kept files = list_all is_kept_file files

-- What is reported of files: their lines where all are kept, their lines where not all are, or that it ran out of memory.
abbrev pub Reports : List VerifiedFile → Outcome → Type 0
Reports files (Ok lines) = (lines ≡ states_text files) × (are_kept files ≡ true)
Reports files (Err (refused.NotCurrent lines)) = (lines ≡ states_text files) × (are_kept files ≡ false)
Reports files (Err refused.Memory) = ⊤
Reports files (Err _) = ⊥

-- What is reported, by what the reading of W came to.
abbrev pub TellsStates : Image → World → step.Outcome → Outcome → Type 0
TellsStates I W step.Answered outcome = Reports (verified I W) outcome
TellsStates I W step.WithoutMemory outcome = outcome ≡ Err refused.Memory
TellsStates I W (step.Faulted taken) outcome = outcome ≡ Err refused.Disk
TellsStates I W (step.Unopened at) outcome = ⊥

-- From W, where the store is open, the files are read, crash included, and it comes to this.
pub record IsVerified (I : Image) (folder : Folder) (W V : World) (outcome : Outcome) (before : CoreState) (old new : History) : Type 0 where
  pub reading : step.Outcome
  pub opens : Reopens false reading []
  pub tells : TellsStates I W reading outcome
  pub now : CoreState
  pub made : Ran I folder W V (Asked Verify reading ∷ []) old new before now

-- By each image that was read with the store, in each world at which the disk is with the store open.
pub record Verifies (store : Opened) (outcome : Outcome) (old new : History) : Type 0 where
  pub each : (I : Image) → IsGood I → HoldsImage I store.image → (folder : Folder) (W V : World) → Kept I folder W V old (core_over store)
      → IsVerified I folder W V outcome (core_over store) old new

-- What comes after an opening: the files are read where it succeeded; why it did not is reported as it is.
abbrev pub VerifiesAfter : Result Opened OpenError → Outcome → Option History → Option History → Type 0
VerifiesAfter (Ok store) outcome d d' = Moves d d' (Verifies store outcome)
VerifiesAfter (Err e) outcome d d' = outcome ≡ Err (not_opened e)

-- The store is opened, without boot, and the files are read; the disk is as it was then.
pub record HasVerified (outcome : Outcome) (d d' : Option History) : Type 0 where
  pub opening : Result Opened OpenError
  pub between : Option History
  pub opens : Moves d between (Opens false opening)
  pub follows : VerifiesAfter opening outcome between d'
  pub same : d' ≡ between

-- ---- for private clauses

-- Why the files were not read, or not all are kept.
abbrev pub IsOfStates : Refusal → Type 0
IsOfStates (refused.NotCurrent lines) = ⊤
IsOfStates refused.Disk = ⊤
IsOfStates refused.Memory = ⊤
IsOfStates _ = ⊥
