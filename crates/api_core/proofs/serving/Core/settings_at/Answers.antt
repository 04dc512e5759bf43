use Rattle.std.proofs.Common.{codes}
use Rattle.settings_maps.specs.KeyList.{has_key}
use Rattle.api_core.proofs.Nesting.{nest_where}
use Rattle.api_core.proofs.serving.Core.settings_at.Goals as goal

pub returns-in_ok-settings_at-in-None-clause-prints : goal.returns-in_ok-settings_at-in-None-clause-prints
returns-in_ok-settings_at-in-None-clause-prints c =
    rw c.tree.ensures
    (nest_where c.args.self.now.held.live.values c.requires.sound.rule.live (codes "settings") (λ e. has_key c.args.keys.now e.0)
    c.in_ok-settings_at-in-None.field-0.items c.in_ok-settings_at-in-None.ensures)
