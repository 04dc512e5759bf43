use Rattle.std.proofs.Common.{◌∙◌}
use Rattle.release_file.proofs.NoWork.{no_renamed_settings}
use Rattle.release_file.proofs.SpelledKeys.{same_size}
use Rattle.release_file.proofs.kinds.rename_settings.Goals as goal

pub returns-in_default : goal.returns-in_default
returns-in_default c = let none = rw c.in_default.is at c.in_ok-old.ensures in no_renamed_settings _ (λ old new has also same. none old has)

pub returns-in_default-2 : goal.returns-in_default-2
returns-in_default-2 c = let none = rw c.in_default-2.is at c.in_ok-new.ensures in no_renamed_settings _ (λ old new has also same. none new also)

pub returns-in_default-3 : goal.returns-in_default-3
returns-in_default-3 c =
    let olds = rw c.in-Some.is at c.in_ok-old.ensures in
    let news = rw c.in-Some-2.is at c.in_ok-new.ensures in
    let none = rw c.in_default-3.is at c.in_ok-pairs.ensures in
    let differ = rw (c.deref.ensures.value, c.deref-2.ensures.value) at none in
    no_renamed_settings _ (λ old new has also same. differ (same_size _ _ _ c.in-Some.old.items old olds has ∙ same
    ∙ same_size _ _ _ new c.in-Some-2.new.items also news))
