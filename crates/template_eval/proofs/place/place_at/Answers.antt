use Rattle.std.proofs.Common.{subst}
use Rattle.template_eval.specs.Kept.{KeepsHere}
use Rattle.template_eval.proofs.place.place_at.Goals as goal

pub returns-in-Some-clause-kept : goal.returns-in-Some-clause-kept
returns-in-Some-clause-kept c content kept = c.lent.ensures.kept content (subst (KeepsHere content) c.in-Some.is kept)

pub returns-in-Some-here-clause-kept : goal.returns-in-Some-here-clause-kept
returns-in-Some-here-clause-kept c content kept = c.below.ensures.kept content
