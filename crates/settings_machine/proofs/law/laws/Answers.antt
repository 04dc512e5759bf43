use Rattle.settings_machine.proofs.PaidLaws.{fit_stays, files_stay_paid, nothing_owed_is_current, openings_fit}
use Rattle.settings_machine.proofs.PaidLaws.{openings_pay, beginnings_pay, new_stores_are_kept, migrations_pay, crashes_pay}
use Rattle.settings_machine.proofs.Programs.{jobs_run_in_order}
use Rattle.settings_machine.proofs.Apartness.{others_leave_it, transactions_are_apart}
use Rattle.settings_machine.proofs.Reopening.{openings_keep_settings, opening_twice_is_once}
use Rattle.settings_machine.proofs.Settled.{idle_owes_nothing}
use Rattle.settings_machine.proofs.Calming.{calm_jobs_end, calm_applies_pay}
use Rattle.settings_machine.proofs.Touching.{jobs_touch_their_files, files_come_first}
use Rattle.settings_machine.proofs.AtOnce.{set_is_one_change}
use Rattle.settings_machine.proofs.Guarding.{guards_hold}
use Rattle.settings_machine.proofs.Planned.{plans_come_true}
use Rattle.settings_machine.proofs.Verifying.{states_are_exact, paid_files_are_ours}
use Rattle.settings_machine.proofs.Forgetting.{forgetting_forgets, forgetting_mends_types, forgetting_pays}
use Rattle.settings_machine.proofs.law.laws.Goals as goal

pub returns-clause-fit : goal.returns-clause-fit
returns-clause-fit c = fit_stays

pub returns-clause-files : goal.returns-clause-files
returns-clause-files c = files_stay_paid

pub returns-clause-opened : goal.returns-clause-opened
returns-clause-opened c = openings_fit

pub returns-clause-openings : goal.returns-clause-openings
returns-clause-openings c = openings_pay

pub returns-clause-beginnings : goal.returns-clause-beginnings
returns-clause-beginnings c = beginnings_pay

pub returns-clause-new_stores : goal.returns-clause-new_stores
returns-clause-new_stores c = new_stores_are_kept

pub returns-clause-migrations : goal.returns-clause-migrations
returns-clause-migrations c = migrations_pay

pub returns-clause-crashes : goal.returns-clause-crashes
returns-clause-crashes c = crashes_pay

pub returns-clause-restarts : goal.returns-clause-restarts
returns-clause-restarts c = jobs_run_in_order

pub returns-clause-current : goal.returns-clause-current
returns-clause-current c = nothing_owed_is_current

pub returns-clause-apart : goal.returns-clause-apart
returns-clause-apart c = transactions_are_apart

pub returns-clause-settings : goal.returns-clause-settings
returns-clause-settings c = openings_keep_settings

pub returns-clause-twice : goal.returns-clause-twice
returns-clause-twice c = opening_twice_is_once

pub returns-clause-idle : goal.returns-clause-idle
returns-clause-idle c = idle_owes_nothing

pub returns-clause-calm : goal.returns-clause-calm
returns-clause-calm c = calm_jobs_end

pub returns-clause-touched : goal.returns-clause-touched
returns-clause-touched c = jobs_touch_their_files

pub returns-clause-first : goal.returns-clause-first
returns-clause-first c = files_come_first

pub returns-clause-calm_apply : goal.returns-clause-calm_apply
returns-clause-calm_apply c = calm_applies_pay

pub returns-clause-others : goal.returns-clause-others
returns-clause-others c = others_leave_it

pub returns-clause-one_change : goal.returns-clause-one_change
returns-clause-one_change c = set_is_one_change

pub returns-clause-guards : goal.returns-clause-guards
returns-clause-guards c = guards_hold

pub returns-clause-plans : goal.returns-clause-plans
returns-clause-plans c = plans_come_true

pub returns-clause-states : goal.returns-clause-states
returns-clause-states c = states_are_exact

pub returns-clause-forgets : goal.returns-clause-forgets
returns-clause-forgets c = forgetting_forgets

pub returns-clause-mends : goal.returns-clause-mends
returns-clause-mends c = forgetting_mends_types

pub returns-clause-forgetting : goal.returns-clause-forgetting
returns-clause-forgetting c = forgetting_pays

pub returns-clause-ours : goal.returns-clause-ours
returns-clause-ours c = paid_files_are_ours
