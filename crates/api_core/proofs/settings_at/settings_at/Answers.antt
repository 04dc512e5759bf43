use Rattle.std.proofs.Common.{◌∙◌, ap}
use Rattle.std.specs.FinMap.{entries}
use Rattle.std.proofs.lemmas.Result.{IfOk-weaker}
use Rattle.api_core.proofs.Gathering.{gathered_settings}
use Rattle.api_core.proofs.settings_at.settings_at.Goals as goal

pub returns : goal.returns
returns c = IfOk-weaker c.pairs_of.result _ _
    (λ pairs is. is ∙ ap entries c.in_ok-map.ensures ∙ gathered_settings c.args.live.now.values c.args.keys.now c.requires) c.pairs_of.ensures
