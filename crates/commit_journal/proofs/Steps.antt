-- One step of a history.
use Rattle.std.proofs.Common.{◌≡◌, sym, subst}
use Rattle.outside.specs.History.{Change, History, next}
use Rattle.outside.specs.Since.{GoesOn}
use Rattle.outside.proofs.Goes.{goes_stay, goes_next}

-- one change is made
pub goes_one : (C : Change → Type 0) (old new : History) (change : Change) → new ≡ next change old → C change → GoesOn C old new
goes_one C old new change is here = subst (λ h. GoesOn C old h) (sym is) (goes_next C old old change (goes_stay C old) here)

-- none is made
pub goes_none : (C : Change → Type 0) (old new : History) → new ≡ old → GoesOn C old new
goes_none C old new is = subst (λ h. GoesOn C old h) (sym is) (goes_stay C old)
