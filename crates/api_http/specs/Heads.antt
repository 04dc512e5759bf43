-- Whole heads of requests within the limits. The byte 10 is a line feed.
use Rattle.std.specs.Prelude.{◌≤◌, ◌<◌, ◌-◌, ◌==◌, ℕ, suc, List, [], ◌∷◌, ◌++◌, length, take, count_by, if◌then◌else◌}
use Rattle.httparse.specs.Grammar.{RequestHead, print_request, ReadsRequest}

-- How many line feeds there are.
unfoldable pub line_feeds : List ℕ → ℕ
line_feeds bytes = count_by (λ b. b == 10) bytes

-- The bytes are the head and then the rest, and the head has at most 64 fields, 66 line feeds and 16,384 bytes.
pub record IsWholeHead (bytes : List ℕ) (head : RequestHead) (rest : List ℕ) : Type 0 where
  pub reads : ReadsRequest bytes head rest
  pub fields : length head.fields ≤ 64
  pub lines : line_feeds (print_request head) ≤ 66
  pub size : length (print_request head) ≤ 16384

-- The bytes begin with no whole head.
abbrev pub HoldsNoHead : List ℕ → Type 0
HoldsNoHead bytes = (head : RequestHead) (rest : List ℕ) → ¬ IsWholeHead bytes head rest

-- The first 16,384 bytes hold at least 66 line feeds.
abbrev pub HasManyLines : List ℕ → Type 0
HasManyLines bytes = 66 ≤ line_feeds (take 16384 bytes)

-- They hold fewer.
abbrev pub HasFewLines : List ℕ → Type 0
HasFewLines bytes = line_feeds (take 16384 bytes) < 66

-- No continuation of the bytes is a head.
abbrev pub IsNeverHead : List ℕ → Type 0
IsNeverHead bytes = (more : List ℕ) (head : RequestHead) → ¬ ReadsRequest (bytes ++ more) head []

-- There are few lines and no whole head, and no continuation is a head.
pub record IsHopeless (bytes : List ℕ) : Type 0 where
  pub no_head : HoldsNoHead bytes
  pub few : HasFewLines bytes
  pub never : IsNeverHead bytes

-- ---- for private clauses

-- How many bytes there are up to the n-th line feed, which counts, or in all.
abbrev pub lines_end : ℕ → List ℕ → ℕ
lines_end n [] = 0
lines_end n (b ∷ bytes) = if n == 0 then 0 else suc (lines_end (n - (if b == 10 then 1 else 0)) bytes)

-- The first 16,384 bytes, and none after the 66th line feed.
abbrev pub shown : List ℕ → List ℕ
shown bytes = take (lines_end 66 (take 16384 bytes)) (take 16384 bytes)
