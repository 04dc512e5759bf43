use Rattle.typed_settings.proofs.Apart.{prefix_free}
use Rattle.settings_machine.proofs.Fitting.{fit_over}
use Rattle.plain_machine.proofs.after.after_set.Goals as goal

pub with_change-requires-clause-rule : goal.with_change-requires-clause-rule
with_change-requires-clause-rule c = c.in_ok-set.ensures.rule c.keep_rule.ensures
    (fit_over c.args.types.now (prefix_free c.args.types.now c.requires.table.apart) c.args.held.now c.requires.typed c.args.pairs.now c.requires.taken)
