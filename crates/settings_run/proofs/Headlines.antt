-- The headline, from what each command did.
use Rattle.std.proofs.Common.{◌≡◌, ℕ, List, Option}
use Rattle.outside.specs.Told.{Moves}
use Rattle.command_outcome.specs.Ends.{Outcome, Ends}
use Rattle.command_words.specs.Orders.{Order, Spells, SpellsNone, init, serve, set, get, apply, verify, check, migrate, prune, load, generate, user_data}
use Rattle.command_words.specs.Orders.{dump, restore, forget}
use Rattle.settings_cmd.specs.Carried.{Carried, IsMisused, RunsNothing}
use Rattle.settings_cmd.specs.Does.{Devices, Does}
use Rattle.settings_run.specs.Headline.{HasCauses, RunsOverAll, Headline}
use Rattle.settings_run.proofs.Beginnings.{begins_store, restores_store}
use Rattle.settings_run.proofs.Commands.{inits, prunes, sets, applies, verifies, gets, serves, loads}
use Rattle.settings_run.proofs.Checks.{checks}
use Rattle.settings_run.proofs.Stores.{dumps, restores, forgets}
use Rattle.settings_run.proofs.Inputs.{generates, provides}
use Rattle.settings_run.proofs.Moves.{migrates}
use Rattle.settings_run.proofs.Words.{init_runs_nothing, get_runs_nothing, check_runs_nothing, migrate_runs_nothing, prune_runs_nothing, load_runs_nothing}
use Rattle.settings_run.proofs.Words.{generate_runs_nothing, user_data_runs_nothing, verify_runs_nothing}
use Rattle.settings_run.proofs.Words.{dump_runs_nothing, restore_runs_nothing, forget_runs_nothing}

module _ (words : List (List ℕ)) (outcome : Outcome) (b n : Devices) (unrun : RunsNothing words → n.runs ≡ b.runs)
    (does : (order : Order) → Spells words order → Does order outcome b n) where
  -- Each order is a run of the machine.
  runs : (order : Order) → Spells words order → Moves b.disk n.disk (RunsOverAll order b n outcome)
  runs (init version) spells =
      inits b n outcome version b.disk n.disk (unrun (init_runs_nothing words version spells))
      (does (init version) spells)
  runs (serve boot slice while_idle connections quiet) spells =
      serves b n outcome boot slice while_idle connections quiet b.disk n.disk
      (does (serve boot slice while_idle connections quiet) spells).0
  runs (set pairs) spells = sets b n outcome pairs b.disk n.disk (does (set pairs) spells)
  runs (get keys) spells =
      gets b n outcome keys (unrun (get_runs_nothing words keys spells)) b.disk n.disk
      (does (get keys) spells)
  runs (apply all) spells = applies b n outcome all b.disk n.disk (does (apply all) spells)
  runs verify spells =
      verifies b n outcome (unrun (verify_runs_nothing words spells)) b.disk n.disk (does verify spells)
  runs (check store) spells =
      checks b n outcome (unrun (check_runs_nothing words store spells)) store b.disk n.disk (does (check store) spells)
  runs (migrate to) spells =
      migrates b n (unrun (migrate_runs_nothing words to spells)) to outcome b.disk n.disk
      (does (migrate to) spells)
  runs prune spells =
      prunes b n outcome b.disk n.disk (unrun (prune_runs_nothing words spells)) (does prune spells)
  runs (load count) spells =
      loads b n outcome count b.disk n.disk (unrun (load_runs_nothing words count spells))
      (does (load count) spells)
  runs generate spells =
      generates b n (unrun (generate_runs_nothing words spells)) outcome b.disk n.disk
      (does generate spells)
  runs (user_data path) spells =
      provides b n (unrun (user_data_runs_nothing words path spells)) outcome path b.disk n.disk
      (does (user_data path) spells)
  runs dump spells = dumps b n outcome (unrun (dump_runs_nothing words spells)) b.disk n.disk (does dump spells)
  runs (restore path) spells =
      restores b n outcome (unrun (restore_runs_nothing words path spells)) path b.disk n.disk (does (restore path) spells)
  runs (forget keys) spells =
      forgets b n outcome (unrun (forget_runs_nothing words keys spells)) keys b.disk n.disk (does (forget keys) spells)

  pub headline : (status : ℕ) (s s' : Option (List ℕ)) → Ends outcome status s s' → HasCauses words outcome status b.faults n.faults
      → (SpellsNone words → Carried IsMisused outcome b.disk n.disk) → Headline words status b n s s'
  headline status s s' ends causes misused = record {
    outcome = outcome;
    ends = ends;
    causes = causes;
    misused = misused;
    does = does;
    runs = runs;
    begins = λ version spells. begins_store version outcome b.disk n.disk (does (init version) spells);
    restores = λ path spells. restores_store path outcome b.disk n.disk (does (restore path) spells);
  }
