use Rattle.std.proofs.lemmas.Result.{IfOk-weaker}
use Rattle.outside.proofs.Told.{moves_then}
use Rattle.load_input.proofs.opening.open_first.Goals as goal

pub returns-clause-starts : goal.returns-clause-starts
returns-clause-starts g c =
    IfOk-weaker c.open.result _ _
    (λ core over. moves_then (λ old between new begins is. record { between = between; begins = begins; over = is }) c.in_ok-begin.ensures over)
    c.open.ensures.over
