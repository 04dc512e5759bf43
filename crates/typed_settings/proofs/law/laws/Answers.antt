use Rattle.typed_settings.proofs.OneOrder.{one_table}
use Rattle.typed_settings.proofs.law.laws.Goals as goal

pub returns : goal.returns
returns c = one_table
