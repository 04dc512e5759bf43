use Rattle.release_file.proofs.NoWork.{no_replaced_metadata}
use Rattle.release_file.proofs.kinds.replace_metadata.Goals as goal

pub returns-in_default : goal.returns-in_default
returns-in_default c = let none = rw c.in_default.is at c.in_ok-key.ensures in no_replaced_metadata _ (λ key name old new has at one other. none key has)
