use Rattle.std.proofs.Common.{length, ap}
use Rattle.std.specs.Prelude.{codes, decimal}
use Rattle.std.proofs.lemmas.Result.{IfOk-weaker}
use Rattle.event_lines.proofs.Made.{worded, one_pair, ended}
use Rattle.event_lines.proofs.job_lines.with_began.Goals as goal

pub returns : goal.returns
returns c =
    let w = c.args.job.now.work in
    IfOk-weaker c.end.result _ _
    (λ text is. ended text
    (one_pair (codes "commands") (decimal (length w.commands)) _ _
    (one_pair (codes "files") (decimal (length w.files)) _ _
    (worded c.args.lines (codes "job-began") c.in_ok-begin.field-0 c.in_ok-begin.ensures)
    (ap decimal c.files_left.ensures) c.in_ok-number.ensures)
    (ap decimal c.commands_left.ensures) c.in_ok-number-2.ensures)
    is)
    c.end.ensures
