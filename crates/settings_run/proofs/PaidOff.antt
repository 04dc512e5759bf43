-- Where a `set` or an `apply` has ended well, nothing is owed.
use Rattle.std.proofs.Common.{◌≡◌, ◌⊎◌, inl, inr, ℕ, true, false, List, Ok, Err, IsOk, refl, ◌∙◌, ap, subst}
use Rattle.std.proofs.lemmas.Bool.{false≢true}
use Rattle.settings_machine.specs.World.{Image, World, Job, Idle, owes_none}
use Rattle.settings_machine.specs.Requests.{Request}
use Rattle.settings_machine.specs.Opening.{added_keys}
use Rattle.settings_machine.specs.Step.{noting, with_job, opened}
use Rattle.settings_machine.specs.Events.{Event, after}
use Rattle.settings_machine.proofs.Sequences.{after-append}
use Rattle.machine_disk.specs.Kept.{Folder}
use Rattle.command_outcome.specs.Ends.{Outcome}
use Rattle.command_words.specs.Orders.{Order, init, serve, set, get, apply, verify, check, migrate, prune, load, generate, user_data}
use Rattle.command_words.specs.Orders.{dump, restore, forget}
use Rattle.core_commands.specs.Carried.{HasEnded, set_requests, apply_requests}
use Rattle.core_commands.specs.Lines.{IsSettingsLine, IsJobLine}
use Rattle.core_commands.proofs.Paying.{set_pays, apply_pays_all}
use Rattle.settings_run.specs.Laws.{Begins, RequestEvents}
use Rattle.settings_run.specs.Events.{IsUnbegun}
use Rattle.settings_run.specs.Headline.{acknowledges_all, FailsToChange, RunsOver}
use Rattle.settings_run.specs.Life.{Invocation, IsRunOf, Rests, PaysAll, is_to_apply}
use Rattle.settings_run.proofs.Cuts.{of_ok}
use Rattle.settings_run.proofs.DoorFaults.{ended_well}
use Rattle.settings_run.proofs.Lives.{runs_over}

-- An opening of a world with an idle job leaves it idle.
opened_idle : (I : Image) (W : World) → W.job ≡ Idle → (opened I W false).job ≡ Idle
unfolding opened
opened_idle I W idle = ap (λ (j : Job). noting j (added_keys I.defaults.values W.held.live.values)) idle

module _ (I : Image) (W : World) (qs : List Request) (Tells : World → List ℕ → Type 0)
    (pays : (asked turned : List Event) → HasEnded I (opened I W false) qs Idle asked turned
    → owes_none (after I (after I (opened I W false) asked) turned).held.owed ≡ true) where
  owes_nothing : (outcome : Outcome) (events : List Event) → IsOk outcome → RequestEvents I W qs Tells outcome events ⊎ IsUnbegun outcome events
      → owes_none (after I W events).held.owed ≡ true
  owes_nothing (Ok said) events ok (inl (inl (asked, turned, is, comes))) =
      ap (λ (X : World). owes_none X.held.owed) (ap (after I W) is ∙ after-append I (opened I W false) asked turned) ∙ pays asked turned comes.0
  owes_nothing (Ok said) events ok (inl (inr (inl (taken, is, inl told)))) = absurd (cc told)
  owes_nothing (Ok said) events ok (inl (inr (inl (taken, is, inr told)))) = absurd (cc told)
  owes_nothing (Ok said) events ok (inl (inr (inr (is, e, refusal, told)))) = absurd (cc told)
  owes_nothing (Ok said) events ok (inr (told, is)) = absurd (cc told)
  owes_nothing (Err refusal) events ok made = absurd (false≢true ok)

module _ (run : Invocation) (I : Image) (folder : Folder) (W : World) (rests : Rests I folder W run.old) (ok : IsOk run.promised.outcome) where
  paid_off : (order : Order) → acknowledges_all order ≡ true → (r : IsRunOf order I folder W run) → owes_none (after I W r.events).held.owed ≡ true
      → (X : World) × Begins I folder X run.new × (owes_none X.held.owed ≡ true)
  paid_off order all r none = (with_job (after I W r.events) Idle, of_ok run.promised.outcome (r.goes_on.ended_well all) ok, none)

  idle : (opened I W false).job ≡ Idle
  idle = opened_idle I W rests.begins.idle

  no_failure : {A : Type 0} (order : Order) → FailsToChange order I folder W run.before run.now run.promised.outcome run.old run.new → A
  no_failure order fails = let clash : false ≡ true = subst IsOk fails.outcome_is ok in absurd (false≢true clash)

  by_order : (order : Order) → is_to_apply order ≡ true → RunsOver order I folder W run.before run.now run.promised.outcome run.old run.new
      → (X : World) × Begins I folder X run.new × (owes_none X.held.owed ≡ true)
  by_order (set pairs) to_apply (inl r) = paid_off (set pairs) refl r
      (owes_nothing I W (set_requests pairs) IsSettingsLine (set_pays I (opened I W false) idle pairs) run.promised.outcome r.events ok r.machine.made)
  by_order (apply all) to_apply (inl r) = paid_off (apply all) refl r
      (owes_nothing I W (apply_requests all) IsJobLine (apply_pays_all I (opened I W false) idle all) run.promised.outcome r.events ok r.machine.made)
  by_order (init version) to_apply is = absurd (false≢true to_apply)
  by_order (serve boot slice while_idle connections quiet) to_apply is = absurd (false≢true to_apply)
  by_order (get keys) to_apply is = absurd (false≢true to_apply)
  by_order verify to_apply is = absurd (false≢true to_apply)
  by_order (check store) to_apply is = absurd (false≢true to_apply)
  by_order (migrate to) to_apply is = absurd (false≢true to_apply)
  by_order prune to_apply is = absurd (false≢true to_apply)
  by_order (load count) to_apply is = absurd (false≢true to_apply)
  by_order generate to_apply is = absurd (false≢true to_apply)
  by_order (user_data path) to_apply is = absurd (false≢true to_apply)
  by_order dump to_apply is = absurd (false≢true to_apply)
  by_order (restore path) to_apply is = absurd (false≢true to_apply)
  by_order (forget keys) to_apply is = absurd (false≢true to_apply)
  by_order order to_apply (inr fails) = no_failure order fails

pub pays_all : PaysAll
pays_all run order spells to_apply status I folder W rests =
    by_order run I folder W rests
    (ended_well run.promised.outcome run.status run.output_before run.output_now run.promised.ends status) order to_apply
    (runs_over order I folder W run rests spells)
