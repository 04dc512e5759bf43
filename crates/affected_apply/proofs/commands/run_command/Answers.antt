use Rattle.std.proofs.Common.{refl}
use Rattle.outside.proofs.Told.{moves_map}
use Rattle.affected_apply.proofs.Runs.{ran_words, words_are}
use Rattle.affected_apply.proofs.commands.run_command.Goals as goal

pub returns-in-Ok-eq0-clause-ran : goal.returns-in-Ok-eq0-clause-ran
returns-in-Ok-eq0-clause-ran g c = moves_map (ran_words _ _ c.in-Ok-eq0.field-0 0 (words_are _ _ c.deref.ensures.value) c.in-Ok-eq0.field-0-test)
    c.in-Ok-eq0.ensures.ran

pub returns-in-Ok-run-clause-ran : goal.returns-in-Ok-run-clause-ran
returns-in-Ok-run-clause-ran g c = moves_map (ran_words _ _ c.in-Ok-run.number c.in-Ok-run.number (words_are _ _ c.deref.ensures.value) refl)
    c.in-Ok-run.ensures.ran
