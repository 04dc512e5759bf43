use Rattle.store_open.proofs.EarlierMoments.{since_settled}
use Rattle.store_open.proofs.GoodImages.{images_are_good}
use Rattle.store_open.proofs.MachineRuns.{machine_step, openings_run, refusals_keep}
use Rattle.store_open.proofs.law.laws.Goals as goal

pub returns-clause-good : goal.returns-clause-good
returns-clause-good c = images_are_good

pub returns-clause-step : goal.returns-clause-step
returns-clause-step c = machine_step

pub returns-clause-settled : goal.returns-clause-settled
returns-clause-settled c boot result old new before opens settled has = since_settled boot before old new settled has (opens.any_moment before has)

pub returns-clause-runs : goal.returns-clause-runs
returns-clause-runs c = openings_run

pub returns-clause-refusals : goal.returns-clause-refusals
returns-clause-refusals c = refusals_keep
