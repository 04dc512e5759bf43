-- What the bytes that are looked at tell of all the bytes.
use Rattle.std.proofs.Common.{◌≡◌, ◌≢◌, ◌≤◌, ◌-◌, ℕ, zero, suc, min, List, [], ◌∷◌, ◌++◌, length, take, sym, ap, ◌∙◌, arith, append_assoc}
use Rattle.httparse.specs.Grammar.{HasNoRequest, NeverHasRequest}
use Rattle.api_http.specs.Heads.{line_feeds, lines_end, shown, HoldsNoHead, HasManyLines, HasFewLines, IsNeverHead}
use Rattle.api_http.proofs.Lines.{mark, small_mark, lines_end-more, line_feeds-nil, line_feeds-cons, take-nil}
use Rattle.api_http.proofs.Shown.{head_in_shown, length-take-shorter}
use Rattle.api_http.proofs.Cut.{past_shown}

-- of the lines there are as many as there are, or n
pub end_lines : (n : ℕ) (bs : List ℕ) → line_feeds (take (lines_end n bs) bs) ≡ min n (line_feeds bs)
end_lines n [] = ap line_feeds (take-nil 0) ∙ omega (arith, line_feeds-nil)
end_lines zero (b ∷ bs) = omega (arith, line_feeds-nil)
end_lines (suc k) (b ∷ bs) =
    let rest = end_lines (suc k - mark b) bs in
    ap (λ m. line_feeds (take m (b ∷ bs))) (lines_end-more (suc k) b bs (omega arith)) ∙ line_feeds-cons b (take (lines_end (suc k - mark b) bs) bs)
    ∙ omega (arith, small_mark b, rest, line_feeds-cons b bs)

-- without a head in the bytes looked at there is none
pub no_head_there : (bytes : List ℕ) → HasNoRequest (shown bytes) → HoldsNoHead bytes
no_head_there bytes none h rest whole = let there = head_in_shown bytes h rest whole.reads whole.size whole.lines in none h there.0 there.1

-- all lines are there, so there are many
pub many_lines_there : (bytes : List ℕ) → line_feeds (shown bytes) ≡ 66 → HasManyLines bytes
many_lines_there bytes full = omega (arith, full, end_lines 66 (take 16384 bytes))

-- not all lines are there, so there are few
pub few_lines_there : (bytes : List ℕ) → line_feeds (shown bytes) ≢ 66 → HasFewLines bytes
few_lines_there bytes few = by (end_lines 66 (take 16384 bytes))
  where
    by : line_feeds (shown bytes) ≡ min 66 (line_feeds (take 16384 bytes)) → HasFewLines bytes
    by e = omega (arith, e, few)

-- bytes looked at that no head begins with make bytes that none begins with
pub never_there : (bytes : List ℕ) → NeverHasRequest (shown bytes) → IsNeverHead bytes
never_there bytes never more h reads =
    let split = past_shown bytes in
    never (split.0 ++ more) h [] (reads.0, sym (ap (λ l. l ++ more) split.1 ∙ append_assoc (shown bytes) split.0 more) ∙ reads.1)

-- no more bytes are looked at than there are
pub length-shown : (bytes : List ℕ) → length (shown bytes) ≤ length bytes
length-shown bytes = omega (arith, length-take-shorter (lines_end 66 (take 16384 bytes)) (take 16384 bytes), length-take-shorter 16384 bytes)
