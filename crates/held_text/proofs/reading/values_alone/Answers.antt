use Rattle.held_text.proofs.ContentReadings.{values_rules}
use Rattle.held_text.proofs.reading.values_alone.Goals as goal

pub of-requires : goal.of-requires
of-requires c = values_rules _ _ _ c.requires c.new.ensures c.new-2.ensures
