use Rattle.std.proofs.Common.{◌+◌, ◌-◌, length, take, drop, arith, refl}
use Rattle.std.proofs.lemmas.Grind.{common_steps}
use Rattle.outside.proofs.PathTexts.{parts_around, no_parts}
use Rattle.outside.proofs.path_text.cut.Goals as goal

pub returns-clause-parts : goal.returns-clause-parts
returns-clause-parts c =
    parts_around c.args.text.now (take c.in_ok-at.at c.args.text.now) (take (length c.args.text.now - (c.in_ok-at.at + 1))
    (drop (c.in_ok-at.at + 1) c.args.text.now)) c.in_ok-at.at c.in_ok-at.ensures.value refl (grind (arith, common_steps))

pub returns-in_err-at-clause-parts : goal.returns-in_err-at-clause-parts
returns-in_err-at-clause-parts c = rw c.from_residual.ensures (no_parts c.args.text.now c.in_err-at.ensures.value)
