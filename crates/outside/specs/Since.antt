-- What a crash may leave at any moment between two histories.
use Rattle.std.specs.Prelude.{◌≡◌, ◌⊎◌, ℕ, ◌+◌, ◌≤◌}
use Rattle.outside.specs.Names.{Names}
use Rattle.outside.specs.Tree.{Tree}
use Rattle.outside.specs.History.{Change, replaced, scribbled, synced, History, begun, next, IsCrashState, EachCrashState}

-- New goes on from old, and a crash at any moment between them, within a call too, leaves a tree that has P.
abbrev pub EachSince : (Tree → Type 0) → History → History → Type 0
EachSince P old (begun tree) = (begun tree ≡ old) × EachCrashState P (begun tree)
EachSince P old (next change history) = ((next change history ≡ old) ⊎ EachSince P old history) × EachCrashState P (next change history)

-- The present moment, as a number of changes.
abbrev pub clock : History → ℕ
clock (begun tree) = 0
clock (next change history) = clock history + 1

-- A crash at some moment from t on might have left this tree.
abbrev pub LeftSince : History → ℕ → Tree → Type 0
LeftSince (begun tree) t crashed = IsCrashState (begun tree) crashed
LeftSince (next change history) t crashed = IsCrashState (next change history) crashed ⊎ ((t ≤ clock history) × LeftSince history t crashed)

-- New goes on from old by such changes alone.
abbrev pub GoesOn : (Change → Type 0) → History → History → Type 0
GoesOn C old (begun tree) = begun tree ≡ old
GoesOn C old (next change history) = (next change history ≡ old) ⊎ (C change × GoesOn C old history)

-- A change at such a path.
abbrev pub IsAt : (Names → Type 0) → Change → Type 0
IsAt Q (replaced path now) = Q path
IsAt Q (scribbled path now) = Q path
IsAt Q synced = ⊥

-- A change at such a path, or a sync.
abbrev pub IsAtOrSync : (Names → Type 0) → Change → Type 0
IsAtOrSync Q (replaced path now) = Q path
IsAtOrSync Q (scribbled path now) = Q path
IsAtOrSync Q synced = Unit {0}

-- No other path is touched between the two.
abbrev pub Touches : (Names → Type 0) → History → History → Type 0
Touches Q old new = GoesOn (IsAtOrSync Q) old new
