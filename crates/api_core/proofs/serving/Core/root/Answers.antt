use Rattle.std.proofs.Common.{◌∙◌, ap}
use Rattle.std.specs.FinMap.{entries}
use Rattle.api_core.proofs.Nesting.{nest_all}
use Rattle.api_core.proofs.serving.Core.root.Goals as goal

pub returns-clause-prints : goal.returns-clause-prints
returns-clause-prints c =
    rw c.tree.ensures (nest_all c.args.self.now.held.live.values c.requires.sound.rule.live c.in_ok-pairs.pairs.items
    (c.in_ok-pairs.ensures ∙ ap entries c.values.ensures.values))
