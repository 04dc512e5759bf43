use Rattle.std.proofs.Common.{◌∙◌, ap}
use Rattle.std.specs.FinMap.{entries}
use Rattle.std.proofs.lemmas.Result.{IfOk-weaker}
use Rattle.api_core.proofs.Names.{named_entries}
use Rattle.api_core.proofs.named_values.named_values.Goals as goal

pub returns : goal.returns
returns c = IfOk-weaker c.pairs_of.result _ _
    (λ pairs is. is ∙ ap entries c.in_ok-map.ensures ∙ named_entries c.args.live.now.values c.args.first.now c.args.names.now) c.pairs_of.ensures
