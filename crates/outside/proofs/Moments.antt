-- Moments as numbers: what a crash since one of them might have left.
use Rattle.std.proofs.Common.{◌≤◌, inl, inr, ap, arith}
use Rattle.outside.specs.Tree.{Tree}
use Rattle.outside.specs.History.{Change, History, begun, next}
use Rattle.outside.specs.Since.{EachSince, clock, LeftSince, GoesOn}

-- the clock never falls over changes
pub goes_later : (C : Change → Type 0) (old new : History) → GoesOn C old new → clock old ≤ clock new
goes_later C old (begun tree) is = let e = ap clock is in omega arith
goes_later C old (next change h) (inl is) = let e = ap clock is in omega arith
goes_later C old (next change h) (inr (any, more)) = let le = goes_later C old h more in omega arith

-- what every crash state since old has, holds of `EachSince`
pub since_of_left : (P : Tree → Type 0) (old new : History) → GoesOn (λ change. Unit {0}) old new
    → ((crashed : Tree) → LeftSince new (clock old) crashed → P crashed) → EachSince P old new
since_of_left P old (begun tree) is has = (is, has)
since_of_left P old (next change h) (inl is) has = (inl is, λ crashed here. has crashed (inl here))
since_of_left P old (next change h) (inr (any, more)) has =
    (inr (since_of_left P old h more (λ crashed left. has crashed (inr (goes_later (λ c. Unit {0}) old h more, left)))), λ crashed here. has crashed (inl here))
