use Rattle.settings_cmd.proofs.Gettings.{gettings_open}
use Rattle.settings_cmd.proofs.Prunings.{prunes_once}
use Rattle.settings_cmd.proofs.law.laws.Goals as goal

pub returns : goal.returns
returns c = record { gettings = gettings_open; prunes = prunes_once }
