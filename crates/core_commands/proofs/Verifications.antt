-- What a core answers of its files is reported.
use Rattle.std.proofs.Common.{arith, ◌≡◌, false, ℕ, List, [], ◌∷◌, Ok, Err, IfErr, refl, sym, ap, subst}
use Rattle.outside.specs.Faults.{HandsOn}
use Rattle.outside.specs.History.{History}
use Rattle.outside.specs.declared.disk_error.DiskErr.{DiskErr}
use Rattle.outside.specs.declared.disk_error.DiskErr.TheVariants as disk
use Rattle.settings_machine.specs.World.{Image, World}
use Rattle.settings_machine.specs.Requests.{Verify}
use Rattle.settings_machine.specs.Step.{Outcome}
use Rattle.settings_machine.specs.Events.{Asked}
use Rattle.settings_machine.specs.Paid.{IsGood}
use Rattle.settings_machine.specs.declared.states.VerifiedFile.{VerifiedFile}
use Rattle.machine_disk.specs.Kept.{Folder, CoreState, Kept}
use Rattle.machine_disk.specs.Ran.{Ran, Reopens}
use Rattle.store_open.specs.Laws.{HoldsImage}
use Rattle.store_open.specs.declared.opened.Opened.{Opened}
use Rattle.store_open.specs.declared.open_error.OpenError.{OpenError}
use Rattle.store_open.specs.declared.open_error.OpenError.TheVariants as opening
use Rattle.command_outcome.specs.Ends.{Outcome as Ended}
use Rattle.command_outcome.specs.declared.refusal.Refusal.{Refusal}
use Rattle.command_outcome.specs.declared.refusal.Refusal.TheVariants as refused
use Rattle.api_core.specs.Cores.{core_state}
use Rattle.api_core.specs.Verifying.{IsVerification, Verifies as Answers}
use Rattle.api_core.specs.declared.serving.Core.{Core}
use Rattle.core_commands.specs.Carried.{core_over}
use Rattle.core_commands.specs.Handing.{not_opened, HasSpawnCause}
use Rattle.core_commands.specs.Verifying.{Reports, TellsStates, IsVerified, Verifies, IsOfStates}
use Rattle.core_commands.proofs.Causes.{quiet_spawn}

module _ (c now : Core) (store : Opened) (before_is : core_state c ≡ core_over store) (image_is : c.image ≡ store.image) (old new : History) where
  -- The files were read,
  pub states_told : (files : List VerifiedFile) (outcome : Ended) → Answers c (Ok files) now old new → Reports files outcome → Verifies store outcome old new
  states_told files outcome answers reports = record { each = by } where
    by : (I : Image) → IsGood I → HoldsImage I store.image → (folder : Folder) (W V : World) → Kept I folder W V old (core_over store)
        → IsVerified I folder W V outcome (core_over store) old new
    by I good holds folder W V kept =
        let v : IsVerification I folder W V (Ok files) old new (core_state c) (core_state now) =
        answers.by_image I good (subst (HoldsImage I) (sym image_is) holds) folder W V (subst (Kept I folder W V old) (sym before_is) kept) in record {
          reading = v.event.outcome;
          opens = subst (λ (o : Outcome). Reopens false o []) (sym v.event.is) refl;
          tells = subst (λ (o : Outcome). TellsStates I W o outcome) (sym v.event.is)
              (subst (λ (fs : List VerifiedFile). Reports fs outcome) v.files reports);
          now = core_state now;
          made = subst (λ (s : CoreState). Ran I folder W V (Asked Verify v.event.outcome ∷ []) old new s (core_state now)) before_is v.event.ran;
        }

  -- or they were not.
  pub states_untold : (e : DiskErr) (refusal : Refusal) → HandsOn refused.Disk refused.Memory e refusal → Answers c (Err e) now old new
      → Verifies store (Err refusal) old new
  states_untold disk.Failed refusal hands answers = record { each = by } where
    by : (I : Image) → IsGood I → HoldsImage I store.image → (folder : Folder) (W V : World) → Kept I folder W V old (core_over store)
        → IsVerified I folder W V (Err refusal) (core_over store) old new
    by I good holds folder W V kept =
        let v : IsVerification I folder W V (Err disk.Failed) old new (core_state c) (core_state now) =
        answers.by_image I good (subst (HoldsImage I) (sym image_is) holds) folder W V (subst (Kept I folder W V old) (sym before_is) kept) in record {
          reading = v.event.outcome;
          opens = subst (λ (o : Outcome). Reopens false o []) (sym v.event.is.1) refl;
          tells = subst (λ (o : Outcome). TellsStates I W o (Err refusal)) (sym v.event.is.1) (ap (λ (r : Refusal). Err r) hands);
          now = core_state now;
          made = subst (λ (s : CoreState). Ran I folder W V (Asked Verify v.event.outcome ∷ []) old new s (core_state now)) before_is v.event.ran;
        }
  states_untold disk.Memory refusal hands answers = record { each = by } where
    by : (I : Image) → IsGood I → HoldsImage I store.image → (folder : Folder) (W V : World) → Kept I folder W V old (core_over store)
        → IsVerified I folder W V (Err refusal) (core_over store) old new
    by I good holds folder W V kept =
        let v : IsVerification I folder W V (Err disk.Memory) old new (core_state c) (core_state now) =
        answers.by_image I good (subst (HoldsImage I) (sym image_is) holds) folder W V (subst (Kept I folder W V old) (sym before_is) kept) in record {
          reading = v.event.outcome;
          opens = subst (λ (o : Outcome). Reopens false o []) (sym v.event.is) refl;
          tells = subst (λ (o : Outcome). TellsStates I W o (Err refusal)) (sym v.event.is) (ap (λ (r : Refusal). Err r) hands);
          now = core_state now;
          made = subst (λ (s : CoreState). Ran I folder W V (Asked Verify v.event.outcome ∷ []) old new s (core_state now)) before_is v.event.ran;
        }

-- ---- what is never reported

of_states : (e : Refusal) → IsOfStates e → (P : Refusal) → (IsOfStates P → ⊥) → e ≡ P → ⊥
of_states e of P none is = none (subst IsOfStates is of)

-- Neither a spawner nor a door is, of the files,
pub states_quiet : (outcome : Ended) (count : ℕ) → IfErr outcome IsOfStates → HasSpawnCause count count outcome
states_quiet (Ok lines) count of =
    record { later = omega arith; failed = λ name is. absurd (cc is); kept = λ not memory. refl; no_door = λ is. cc is }
states_quiet (Err e) count of =
    quiet_spawn e count count refl (λ name. of_states e of (refused.Spawn name) (λ none. none)) (of_states e of refused.Door (λ none. none))

-- nor of the opening.
pub opening_quiet : (e : OpenError) (count : ℕ) → HasSpawnCause {T = List ℕ} count count (Err (not_opened e))
opening_quiet e count = quiet_spawn (not_opened e) count count refl (λ name. no_spawn e name) (no_door e) where
  no_spawn : (e : OpenError) (name : List ℕ) → not_opened e ≡ refused.Spawn name → ⊥
  no_spawn opening.NoStore name is = cc is
  no_spawn (opening.BadLink path) name is = cc is
  no_spawn (opening.BadJournal path) name is = cc is
  no_spawn (opening.Damaged path) name is = cc is
  no_spawn (opening.OldFormat directory) name is = cc is
  no_spawn (opening.BadImage file kind at) name is = cc is
  no_spawn (opening.IllTyped key) name is = cc is
  no_spawn opening.Failed name is = cc is
  no_spawn opening.Memory name is = cc is

  no_door : (e : OpenError) → not_opened e ≡ refused.Door → ⊥
  no_door opening.NoStore is = cc is
  no_door (opening.BadLink path) is = cc is
  no_door (opening.BadJournal path) is = cc is
  no_door (opening.Damaged path) is = cc is
  no_door (opening.OldFormat directory) is = cc is
  no_door (opening.BadImage file kind at) is = cc is
  no_door (opening.IllTyped key) is = cc is
  no_door opening.Failed is = cc is
  no_door opening.Memory is = cc is
