-- What a device tells of itself: always or never.
use Rattle.std.specs.Prelude.{Option, Some, None, IfSome}

-- Both are there and R relates them, or neither is there.
abbrev pub BothBy : {S : Type 0} → (S → S → Type 0) → Option S → Option S → Type 0
BothBy R None None = Unit {0}
BothBy R (Some old) (Some new) = R old new
BothBy R None (Some new) = ⊥
BothBy R (Some old) None = ⊥

-- A device tells before and after or not at all, and where it tells, R relates the two.
pub record Moves {S : Type 0} (before after : Option S) (R : S → S → Type 0) : Type 0 where
  pub told : BothBy R before after

-- Where a device tells, P holds of what it tells.
pub record WhereTold {S : Type 0} (told : Option S) (P : S → Type 0) : Type 0 where
  pub is : IfSome told P
