use Rattle.settings_cmd.proofs.StoreChecked.{held_report, held_refusal}
use Rattle.settings_cmd.proofs.store_checking.check_held.Goals as goal

pub returns-in-Ok-clause-checks : goal.returns-in-Ok-clause-checks
returns-in-Ok-clause-checks g c = held_report c.in-Ok.image c.args.held.now c.report_held.result _ c.len.ensures.table
    c.in-Ok.ensures.ok c.report_held.ensures.reports

pub returns-in-Err-clause-checks : goal.returns-in-Err-clause-checks
returns-in-Err-clause-checks g c = held_refusal c.read_image.result c.in-Err.error c.args.held.now c.refused.result _ c.in-Err.is c.refused.ensures.hands
    c.read_image.ensures.bad
