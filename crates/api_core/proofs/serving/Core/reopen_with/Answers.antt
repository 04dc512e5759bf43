use Rattle.api_core.proofs.Soundness.{rows_still}
use Rattle.api_core.proofs.serving.Core.reopen_with.Goals as goal

pub returns-clause-sound : goal.returns-clause-sound
returns-clause-sound c = record {
  two_names = c.requires.opened.two_names;
  typed = c.requires.opened.typed;
  rows = rows_still c.args.store.image.manifest _ c.requires.still;
  still = λ faulted. absurd (cc faulted);
}
