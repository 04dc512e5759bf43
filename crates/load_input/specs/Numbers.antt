-- Numbers from 0 on.
use Rattle.std.specs.Prelude.{ℕ, List}
use Rattle.std.specs.List.{range_with_len}

-- The numbers below n, rising.
abbrev pub below : ℕ → List ℕ
below n = range_with_len 0 n
