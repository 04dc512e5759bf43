use Rattle.release_file.proofs.NoWork.{no_removed_metadata}
use Rattle.release_file.proofs.kinds.remove_metadata.Goals as goal

pub returns-in_default : goal.returns-in_default
returns-in_default c = let none = rw c.in_default.is at c.in_ok-key.ensures in no_removed_metadata _ (λ key names has at. none key has)
