use Rattle.std.proofs.Common.{codes}
use Rattle.key_names.specs.Key.{is_prefix}
use Rattle.api_core.proofs.Nesting.{nest_where}
use Rattle.api_core.proofs.serving.Core.settings_below.Goals as goal

pub returns-clause-prints : goal.returns-clause-prints
returns-clause-prints c =
    rw c.tree.ensures
    (nest_where c.args.self.now.held.live.values c.requires.sound.rule.live (codes "settings") (λ e. is_prefix c.args.prefix.now e.0)
    c.in_ok-pairs.pairs.items c.in_ok-pairs.ensures)
