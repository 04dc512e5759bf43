use Rattle.settings_machine.specs.Answers.{is_below_one}
use Rattle.api_core.proofs.Nesting.{nest_below, nest_where}
use Rattle.api_core.proofs.serving.Core.below_names.Goals as goal

pub returns-in_default-clause-prints : goal.returns-in_default-clause-prints
returns-in_default-clause-prints c =
    rw c.tree.ensures
    (nest_below c.args.self.now.held.live.values c.requires.sound.rule.live c.args.first.now c.in_ok-pairs.pairs.items c.in_ok-pairs.ensures)

pub returns-in_ok-named_values-in-None-clause-prints : goal.returns-in_ok-named_values-in-None-clause-prints
returns-in_ok-named_values-in-None-clause-prints c =
    rw c.tree-in-None.ensures
    (nest_where c.args.self.now.held.live.values c.requires.sound.rule.live c.args.first.now
    (λ e. is_below_one c.args.first.now c.deref-in-None.result.now e.0) c.in_ok-named_values-in-None.field-0.items c.in_ok-named_values-in-None.ensures)
