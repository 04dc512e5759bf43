use Rattle.migrate_helpers.specs.Borrowed.{step_of}
use Rattle.migrate_helpers.specs.Laws.Refusals.{free_allowed}
use Rattle.migrate_helpers.proofs.WeakRightly.{rightly_allowed}
use Rattle.migrate_helpers.proofs.live.edited_live.Goals as goal

pub with_settings-requires-clause-rule : goal.with_settings-requires-clause-rule
with_settings-requires-clause-rule c = free_allowed _ c.in_ok-settings.settings c.in_ok-settings.ensures.ok

pub with_settings-requires-clause-weak : goal.with_settings-requires-clause-weak
with_settings-requires-clause-weak c = rightly_allowed (step_of c.args.edit.now) c.in_ok-settings_of.field-0 c.in_ok-settings.settings
    c.in_ok-settings_of.ensures.weak c.in_ok-settings.ensures.ok
