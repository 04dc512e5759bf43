use Rattle.held_text.proofs.HeldReadings.{members_read}
use Rattle.held_text.proofs.reading.held_of.Goals as goal

pub returns : goal.returns
returns c = members_read _ _ _ _ c.in_ok-values_of.ensures.ok c.into_iter-values.ensures.rest c.held_in.ensures
