use Rattle.depend_check.proofs.Outcomes.{tested}
use Rattle.depend_check.proofs.covering.failure_at.Goals as goal

pub returns-in-None-clause-none : goal.returns-in-None-clause-none
returns-in-None-clause-none c =
    λ outside. tested c.args.types.now c.args.manifest.now.index c.args.services.now c.args.path.now c.in_ok-gap.field-0 c.reaches.ensures.prefix_free
    (c.reaches.ensures.reached.0 c.if-not-reaches.false) c.in_ok-gap.ensures c.in-None.is
