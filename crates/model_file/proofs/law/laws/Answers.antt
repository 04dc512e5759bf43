use Rattle.model_file.proofs.OneModel.{one_model}
use Rattle.model_file.proofs.law.laws.Goals as goal

pub returns : goal.returns
returns c = one_model
