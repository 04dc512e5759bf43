use Rattle.std.proofs.Common.{ne_eqb}
use Rattle.version_links.proofs.Digits.{behind_id, behind_number}
use Rattle.version_links.proofs.number.value.Goals as goal

pub returns-then-mark-eq95 : goal.returns-then-mark-eq95
returns-then-mark-eq95 c = behind_id _ c.args.mark _ c.if-mark-eq95.true c.id.ensures

pub returns-else-mark-eq95 : goal.returns-else-mark-eq95
returns-else-mark-eq95 c = behind_number _ c.args.mark _ (ne_eqb _ _ c.if-mark-eq95.false) c.number.ensures
