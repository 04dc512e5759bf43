use Rattle.migrate_helpers.specs.Laws.Keeping.{keeps_step}
use Rattle.migrate_helpers.specs.Step.{backward_step, forward_step}
use Rattle.migrate_chain.specs.Tasks.{step_in}
use Rattle.migrate_chain.proofs.mapping.made_by.Goals as goal

pub returns-in-Ok-clause-kept : goal.returns-in-Ok-clause-kept
returns-in-Ok-clause-kept c rule = keeps_step (step_in (forward_step c.args.migration.now) (backward_step c.args.migration.now) c.args.back) c.args.held.now
    c.in-Ok.made rule c.in-Ok.ensures.ok
