use Rattle.std.proofs.Common.{ℕ, List, ◌++◌, ◌∙◌, ap}
use Rattle.std.specs.Prelude.{codes}
use Rattle.std.proofs.lemmas.Result.{IfOk-weaker}
use Rattle.event_lines.specs.Logfmt.{pair_text}
use Rattle.event_lines.proofs.Made.{two_pairs}
use Rattle.event_lines.proofs.targets.with_guarded.Goals as goal

pub returns : goal.returns
returns c =
    IfOk-weaker c.pair-2.result _ _
    (λ text is. two_pairs c.args.lines c.in_ok-pair.field-0 text (codes "tx", c.args.tx.now) (codes "check", codes "render")
    (c.in_ok-pair.ensures ∙ ap (λ (v : List ℕ). c.args.lines ++ pair_text (codes "tx", v)) c.as_str.ensures.bytes) is)
    c.pair-2.ensures
