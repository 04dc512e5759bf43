-- What generators and user data give is committed, which is a run of the machine, where a store is there.
use Rattle.std.proofs.Common.{◌≡◌, inl, inr, ℕ, false, List, Option, Some, None, Result, Ok, Err, refl, sym, ◌∙◌, ap, subst}
use Rattle.outside.specs.History.{History}
use Rattle.outside.specs.Names.{Names}
use Rattle.outside.specs.Spawner.{Run}
use Rattle.outside.specs.Told.{Moves}
use Rattle.outside.proofs.Told.{moves_same, moves_map, moves_then}
use Rattle.settings_machine.specs.World.{Image, World}
use Rattle.settings_machine.specs.Events.{Event, faulted_after}
use Rattle.store_open.specs.declared.opened.Opened.{Opened}
use Rattle.store_open.specs.declared.open_error.OpenError.{OpenError}
use Rattle.command_outcome.specs.Ends.{Outcome}
use Rattle.command_words.specs.Orders.{generate, user_data}
use Rattle.core_commands.specs.Committing.{commit_requests}
use Rattle.settings_cmd.specs.Committing.{Made, CommitsMade}
use Rattle.settings_cmd.specs.Generators.{generate_tx}
use Rattle.settings_cmd.specs.UserData.{data_tx}
use Rattle.settings_cmd.specs.Carried.{Carried, HasGenerated, GeneratesAfter, GeneratesOrNot, IsProvided, ProvidesAfter}
use Rattle.settings_cmd.specs.Does.{Devices}
use Rattle.settings_run.specs.Laws as runs
use Rattle.settings_run.specs.Laws.{MadeEvents, IsUnopened, GenerateEvents, ProvisionEvents}
use Rattle.settings_run.proofs.Pairs.{generates_run, provisions_run}
use Rattle.settings_run.specs.Headline.{RunsOverAll}
use Rattle.settings_run.proofs.Answered.{run_of}
use Rattle.settings_run.proofs.Touched.{own_elsewhere}
use Rattle.settings_run.proofs.Calm.{asked_calm, ends_calm}
use Rattle.settings_run.proofs.Commands.{unmoved}

-- ---- where it ended well no call of the disk has failed

made_calm : (I : Image) (W : World) (tx : List ℕ) (made : Made) (said : List ℕ) (events : List Event) → MadeEvents I W tx made (Ok said) events
    → faulted_after false events ≡ false
made_calm I W tx (Ok pairs) said events (asked, is, comes) =
    ap (faulted_after false) is ∙ ap (faulted_after false) comes.0.events_are ∙ asked_calm (commit_requests tx pairs)
made_calm I W tx (Err refusal) said events (is, told) = absurd (cc told)

unopened_calm : (said : List ℕ) (events : List Event) → IsUnopened false (Ok said) events → faulted_after false events ≡ false
unopened_calm said events (inl (taken, is, inl told)) = absurd (cc told)
unopened_calm said events (inl (taken, is, inr told)) = absurd (cc told)
unopened_calm said events (inr (is, e, refusal, told)) = absurd (cc told)

-- ---- what the disk tells

-- It tells before and after, or not at all.
committed : (tx : List ℕ) (store : Opened) (made : Made) (outcome : Outcome) (d d' : Option History) → CommitsMade tx store made outcome d d'
    → Moves d d' (λ old new. Unit {0})
committed tx store (Ok pairs) outcome d d' moves = moves_map (λ old new is. tt) moves
committed tx store (Err refusal) outcome d d' is = moves_same is.1 (λ h. tt)

told_on : {R Q : History → History → Type 0} (d between d' : Option History) → Moves d between R → Moves between d' Q → Moves d d' (λ old new. Unit {0})
told_on d between d' one two = moves_then (λ a b c x y. tt) one two

module _ (b n : Devices) (no_runs : n.runs ≡ b.runs) (outcome : Outcome) where
  -- ---- generate

  generated : (old new : History) → HasGenerated b.asked n.asked outcome (Some old) (Some new) → RunsOverAll generate b n outcome old new
  generated old new is I good folder image W at =
      let run : runs.IsRun I folder W (GenerateEvents I folder W b.asked n.asked outcome) b.runs n.runs old new =
      subst (λ (s : Option (List Run)). runs.IsRun I folder W (GenerateEvents I folder W b.asked n.asked outcome) b.runs s old new) (sym no_runs)
      (generates_run I good folder image W b.asked n.asked outcome b.runs old new at is) in
      inl (run_of generate I good folder W b n outcome old new at run.events (inl run.form_is) run.runs_to run.ran
      (own_elsewhere generate I run.events old new (λ directory path may. may) run.touches)
      (λ all. ends_calm run.events outcome
      (λ said told. calm said run.events (subst (λ (o : Outcome). GenerateEvents I folder W b.asked n.asked o run.events) told run.form_is))))
    where
      calm : (said : List ℕ) (events : List Event) → GenerateEvents I folder W b.asked n.asked (Ok said) events → faulted_after false events ≡ false
      calm said events (inl (made, gives, ends, keeps)) = made_calm I W generate_tx made said events ends
      calm said events (inr un) = unopened_calm said events un.0

  generates_told : (d between d' : Option History) (opening : Result Opened OpenError) → GeneratesAfter b.asked n.asked opening outcome between d'
      → Moves between d' (λ old new. Unit {0})
  generates_told d between d' (Ok store) follows = committed generate_tx store follows.made outcome between d' follows.ends
  generates_told d between d' (Err e) follows = moves_same follows.1 (λ h. tt)

  generated_by : (d d' : Option History) → HasGenerated b.asked n.asked outcome d d' → Moves d d' (λ old new. Unit {0})
      → Moves d d' (RunsOverAll generate b n outcome)
  generated_by None None is told = record { told = tt }
  generated_by (Some old) (Some new) is told = record { told = generated old new is }
  generated_by None (Some new) is told = absurd told.told
  generated_by (Some old) None is told = absurd told.told

  pub generates : (d d' : Option History) → GeneratesOrNot b.asked n.asked outcome d d' → Moves d d' (RunsOverAll generate b n outcome)
  generates d d' (inl is) = generated_by d d' is (told_on d is.between d' is.opens (generates_told d is.between d' is.opening is.follows))
  generates d d' (inr none) = unmoved b n outcome generate d d' none.same no_runs (λ I folder W h. inr ((none.answers, refl), none.unasked))

  -- ---- user-data

  module _ (path : Names) where
    provided : (old new : History) → IsProvided path outcome (Some old) (Some new) → RunsOverAll (user_data path) b n outcome old new
    provided old new is I good folder image W at =
        let run : runs.IsRun I folder W (ProvisionEvents I W path outcome old) b.runs n.runs old new =
        subst (λ (s : Option (List Run)). runs.IsRun I folder W (ProvisionEvents I W path outcome old) b.runs s old new) (sym no_runs)
        (provisions_run I good folder image W path outcome b.runs old new at is) in
        inl (run_of (user_data path) I good folder W b n outcome old new at run.events (inl run.form_is) run.runs_to run.ran
        (own_elsewhere (user_data path) I run.events old new (λ directory path may. may) run.touches)
        (λ all. ends_calm run.events outcome
        (λ said told. calm said run.events (subst (λ (o : Outcome). ProvisionEvents I W path o old run.events) told run.form_is))))
      where
        calm : (said : List ℕ) (events : List Event) → ProvisionEvents I W path (Ok said) old events → faulted_after false events ≡ false
        calm said events (inl is) = made_calm I W data_tx is.made said events is.ends
        calm said events (inr un) = unopened_calm said events un

    provides_told : (between d' : Option History) (opening : Result Opened OpenError) → ProvidesAfter path opening outcome between d'
        → Moves between d' (λ old new. Unit {0})
    provides_told between d' (Ok store) follows = committed data_tx store follows.made outcome between d' follows.ends
    provides_told between d' (Err e) follows = moves_same follows.1 (λ h. tt)

    provided_by : (d d' : Option History) → IsProvided path outcome d d' → Moves d d' (λ old new. Unit {0})
        → Moves d d' (RunsOverAll (user_data path) b n outcome)
    provided_by None None is told = record { told = tt }
    provided_by (Some old) (Some new) is told = record { told = provided old new is }
    provided_by None (Some new) is told = absurd told.told
    provided_by (Some old) None is told = absurd told.told

    pub provides : (d d' : Option History) → Carried (IsProvided path) outcome d d' → Moves d d' (RunsOverAll (user_data path) b n outcome)
    provides d d' (inl is) = provided_by d d' is (told_on d is.between d' is.opens (provides_told is.between d' is.opening is.follows))
    provides d d' (inr none) = unmoved b n outcome (user_data path) d d' none.1 no_runs (λ I folder W h. inr (none.0, refl))
