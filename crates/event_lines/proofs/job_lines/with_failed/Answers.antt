use Rattle.std.proofs.Common.{◌∙◌}
use Rattle.std.specs.Prelude.{codes}
use Rattle.std.proofs.lemmas.Result.{IfOk-weaker}
use Rattle.event_lines.specs.Lines.{cause_text}
use Rattle.event_lines.proofs.Made.{worded, one_pair, ended}
use Rattle.event_lines.proofs.job_lines.with_failed.Goals as goal

pub returns : goal.returns
returns c =
    IfOk-weaker c.end.result _ _
    (λ text is. ended text
    (one_pair (codes "cause") (cause_text c.args.cause.now) _ _
    (worded c.args.lines (codes "job-failed") c.in_ok-begin.field-0 c.in_ok-begin.ensures)
    (c.as_str.ensures ∙ c.in_ok-cause.ensures) c.in_ok-pair.ensures)
    is)
    c.end.ensures
