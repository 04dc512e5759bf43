use Rattle.std.proofs.Common.{codes}
use Rattle.api_core.proofs.Nesting.{nest_below}
use Rattle.api_core.proofs.serving.Core.settings.Goals as goal

pub returns-clause-prints : goal.returns-clause-prints
returns-clause-prints c =
    rw c.tree.ensures
    (nest_below c.args.self.now.held.live.values c.requires.sound.rule.live (codes "settings") c.in_ok-pairs.pairs.items c.in_ok-pairs.ensures)
