use Rattle.settings_run.proofs.CommandRuns.{sets_run, applies_run, serves_run, gets_run, verifies_run}
use Rattle.settings_run.proofs.Lives.{lives_are_runs}
use Rattle.settings_run.proofs.NewLives.{new_lives_are_runs}
use Rattle.settings_run.proofs.LastingFiles.{files_last}
use Rattle.settings_run.proofs.PaidOff.{pays_all}
use Rattle.settings_run.proofs.Agreeing.{calm_runs_agree}
use Rattle.settings_run.proofs.MoveRuns.{inits_run, migrates_run}
use Rattle.settings_run.proofs.Pairs.{generates_run, provisions_run}
use Rattle.settings_run.proofs.Touched.{touches_within, other_stores_stay}
use Rattle.settings_run.proofs.law.laws.Goals as goal

pub returns : goal.returns
returns c = record {
  init = inits_run;
  serve = serves_run;
  set = sets_run;
  get = gets_run;
  apply = applies_run;
  verify = verifies_run;
  migrate = migrates_run;
  generate =
      generates_run;
  user_data = provisions_run;
  within = touches_within;
  other = other_stores_stay;
  life = lives_are_runs;
  new_life = new_lives_are_runs;
  files = files_last;
  pays = pays_all;
  calm = calm_runs_agree;
}
