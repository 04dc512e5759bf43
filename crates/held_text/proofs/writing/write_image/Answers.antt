use Rattle.std.proofs.Common.{rules}
use Rattle.std.proofs.lemmas.Result.{on_ok_weaker}
use Rattle.held_text.proofs.writing.write_image.Goals as goal

pub returns-clause-valid : goal.returns-clause-valid
returns-clause-valid c = on_ok_weaker c.string.result (λ _ i. rw (← c.as_slice-bytes.ensures) (search rules)) c.string.ensures.ok
