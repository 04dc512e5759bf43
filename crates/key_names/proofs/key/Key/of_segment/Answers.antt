use Rattle.key_names.proofs.KeyLimits.{none_fit}
use Rattle.key_names.proofs.key.Key.of_segment.Goals as goal

pub extended-requires-clause-fit : goal.extended-requires-clause-fit
extended-requires-clause-fit c = none_fit
