use Rattle.machine_disk.proofs.Meanings.{one_store, core_holds}
use Rattle.machine_disk.proofs.Quiet.{calm_images}
use Rattle.machine_disk.proofs.Runs.{calm_disk, ran_more}
use Rattle.machine_disk.proofs.Prefixes.{runs_touch, runs_to}
use Rattle.machine_disk.proofs.law.laws.Goals as goal

pub returns-clause-calls : goal.returns-clause-calls
returns-clause-calls c = ran_more

pub returns-clause-runs : goal.returns-clause-runs
returns-clause-runs c = runs_to

pub returns-clause-touch : goal.returns-clause-touch
returns-clause-touch c = runs_touch

pub returns-clause-settle : goal.returns-clause-settle
returns-clause-settle c = calm_disk

pub returns-clause-crashes : goal.returns-clause-crashes
returns-clause-crashes c = calm_images

pub returns-clause-holds : goal.returns-clause-holds
returns-clause-holds c = core_holds

pub returns-clause-one : goal.returns-clause-one
returns-clause-one c = one_store
