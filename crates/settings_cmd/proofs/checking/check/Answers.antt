use Rattle.settings_cmd.proofs.Checked.{report_tells, refusal_tells}
use Rattle.settings_cmd.proofs.checking.check.Goals as goal

pub returns-in-Ok-clause-tells : goal.returns-in-Ok-clause-tells
returns-in-Ok-clause-tells g c = report_tells c.in-Ok.image c.report.result _ c.in-Ok.ensures.ok c.report.ensures.reports

pub returns-in-Err-clause-tells : goal.returns-in-Err-clause-tells
returns-in-Err-clause-tells g c = refusal_tells c.read_image.result c.in-Err.error c.refused.result _ c.in-Err.is c.refused.ensures.hands
    c.read_image.ensures.bad
