use Rattle.release_file.proofs.NoWork.{no_replaced_string}
use Rattle.release_file.proofs.kinds.replace_string.Goals as goal

pub returns-in_default : goal.returns-in_default
returns-in_default c = let none = rw c.in_default.is at c.in_ok-setting.ensures in no_replaced_string _ (λ key old new has one other. none key has)
