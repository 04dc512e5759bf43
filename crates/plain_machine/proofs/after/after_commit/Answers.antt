use Rattle.typed_settings.proofs.Apart.{prefix_free}
use Rattle.settings_machine.proofs.Fitting.{fit_live}
use Rattle.plain_machine.proofs.after.after_commit.Goals as goal

pub with_change-requires-clause-rule : goal.with_change-requires-clause-rule
with_change-requires-clause-rule c = c.in-Ok.ensures.rule c.keep_rule.ensures
    (fit_live c.args.types.now (prefix_free c.args.types.now c.requires.table.apart) c.args.held.now c.requires.typed c.args.tx.now)
