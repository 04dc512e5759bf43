-- What a checked operation that gives nothing tells.
use Rattle.std.proofs.Common.{◌≡◌, ◌≤◌, ◌<◌, ℕ, Option, Some, None, MatchOption, arith}
use Rattle.std.specs.Option.{SomeIff}

-- What no value tells.
pub none_matches : {T : Type 0} (o : Option T) (P : Type 0) (Q : T → Type 0) → o ≡ None → P → MatchOption o P Q
none_matches None P Q e p = p
none_matches (Some x) P Q e p = cc

-- A number that a checked operation refuses is no smaller than its limit.
pub not_below : (o : Option ℕ) (n most v : ℕ) → o ≡ None → SomeIff o (n < most) v → most ≤ n
not_below None n most v e large = omega arith
not_below (Some x) n most v e large = cc
