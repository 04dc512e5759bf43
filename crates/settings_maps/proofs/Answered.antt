-- What an answer that may be missing tells, by what is known of both cases.
use Rattle.std.proofs.Common.{Option, Some, None}
use Rattle.std.specs.Prelude.{MatchOption, IfSome, IfNone}

-- What is known of a value tells more of it.
pub some_told : {A : Type 0} (N : Type 0) (r : Option A) (P Q : A → Type 0) → MatchOption r N P → ((a : A) → P a → Q a) → IfSome r Q
some_told N None P Q known tells = tt
some_told N (Some a) P Q known tells = tells a known

-- What is known where there is none tells more.
pub none_told : {A : Type 0} (N M : Type 0) (r : Option A) (P : A → Type 0) → MatchOption r N P → (N → M) → IfNone r M
none_told N M None P known tells = tells known
none_told N M (Some a) P known tells = tt
