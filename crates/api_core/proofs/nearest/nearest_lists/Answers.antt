use Rattle.std.proofs.Common.{◌∙◌, ap, sym}
use Rattle.std.proofs.lemmas.Result.{IfOk-weaker}
use Rattle.api_core.proofs.NearLists.{lists_are}
use Rattle.api_core.proofs.nearest.nearest_lists.Goals as goal

pub returns : goal.returns
returns c = IfOk-weaker c.lists_of.result _ _
    (λ lists is. λ I manifest. lists_are I c.index.result.now (ap (λ m. m.index) manifest
    ∙ sym c.index.ensures) c.args.keys.now _ c.in_ok-once.ensures _ is) c.lists_of.ensures
