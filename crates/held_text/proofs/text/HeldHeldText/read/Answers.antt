use Rattle.held_text.proofs.HeldReadings.{none_prints}
use Rattle.held_text.proofs.text.HeldHeldText.read.Goals as goal

pub returns-clause-bad : goal.returns-clause-bad
returns-clause-bad c = none_prints c.args.text.now c.read_exactly.result c.read_exactly.ensures.exact
