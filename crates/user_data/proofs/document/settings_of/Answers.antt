use Rattle.toml.proofs.Views.{table_get}
use Rattle.user_data.specs.Pairs.{settings}
use Rattle.user_data.proofs.document.settings_of.Goals as goal

pub returns : goal.returns
returns c = table_get c.get.result settings c.args.document.now.entries c.get.ensures.value
