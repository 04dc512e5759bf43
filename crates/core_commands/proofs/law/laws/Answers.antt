use Rattle.core_commands.proofs.Paying.{set_pays, apply_pays_all}
use Rattle.core_commands.proofs.law.laws.Goals as goal

pub returns : goal.returns
returns c = record { set = set_pays; apply = apply_pays_all }
