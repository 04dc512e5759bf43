-- Line feeds of a head, and of the bytes that may hold it.
use Rattle.std.proofs.Common.{◌≡◌, ℕ, zero, suc, ◌+◌, ◌-◌, ◌<◌, ◌≤◌, List, [], ◌∷◌, ◌++◌, length, take}
use Rattle.std.proofs.Common.{drop, get_or, refl, ap, ◌∙◌, arith, cond, ◌==◌, if◌then◌else◌, Bool, true, false, ne_eqb, append-nil}
use Rattle.std.proofs.Math.Seq.{take-suc, drop-cons}
use Rattle.std.proofs.lemmas.List.Sums.{sum_by-cons, sum_by-append}
use Rattle.std.specs.List.{flat_map}
use Rattle.httparse.specs.Ascii.{space, colon}
use Rattle.httparse.specs.Grammar.{LineEnd, crlf, lf, print_end, Field, print_field}
use Rattle.httparse.specs.Grammar.{print_section, print_blank, RequestHead, print_request, print_version, ReadsRequest, HasNoRequest}
use Rattle.httparse.specs.Spans.{RequestOverflows, RequestExceeds}
use Rattle.api_http.specs.Heads.{line_feeds, lines_end, shown}

-- 1 at a line feed
abbrev pub mark : ℕ → ℕ
mark b = if b == 10 then 1 else 0

-- no bytes hold no line feed
pub line_feeds-nil : line_feeds [] ≡ 0
unfolding line_feeds
line_feeds-nil = refl

-- the first byte may be one
pub line_feeds-cons : (b : ℕ) (bs : List ℕ) → line_feeds (b ∷ bs) ≡ mark b + line_feeds bs
unfolding line_feeds
line_feeds-cons b bs = sum_by-cons (λ c. cond (c == 10) 1 0) b bs

-- line feeds of two texts add up
pub line_feeds-append : (xs ys : List ℕ) → line_feeds (xs ++ ys) ≡ line_feeds xs + line_feeds ys
unfolding line_feeds
line_feeds-append xs ys = sum_by-append (λ c. cond (c == 10) 1 0) xs ys

-- a line end has one
pub one_line : (e : LineEnd) → line_feeds (print_end e) ≡ 1
unfolding line_feeds
one_line crlf = refl
one_line lf = refl

behind : (xs ys : List ℕ) → line_feeds ys ≤ line_feeds (xs ++ ys)
behind xs ys = omega (arith, line_feeds-append xs ys)

before : (xs ys : List ℕ) → line_feeds xs ≤ line_feeds (xs ++ ys)
before xs ys = omega (arith, line_feeds-append xs ys)

field_line : (f : Field) → 1 ≤ line_feeds (print_field f)
field_line f = omega (arith, one_line f.end, behind (f.name ++ colon ∷ f.raw) (print_end f.end))

field_lines : (fs : List Field) → length fs ≤ line_feeds (flat_map print_field fs)
field_lines [] = omega (arith)
field_lines (f ∷ fs) = omega (arith, field_line f, field_lines fs, line_feeds-append (print_field f) (flat_map print_field fs))

-- a byte is one line feed at most
pub small_mark : (b : ℕ) → mark b ≤ 1
small_mark b = by (b == 10)
  where
    by : (t : Bool) → cond t 1 0 ≤ 1
    by true = omega arith
    by false = omega arith

-- the end of the lines, byte by byte
pub lines_end-more : (n b : ℕ) (bs : List ℕ) → 0 < n → lines_end n (b ∷ bs) ≡ suc (lines_end (n - mark b) bs)
lines_end-more n b bs h = rw (ne_eqb n 0 (λ e. omega arith)) refl

line_feeds-take : (xs : List ℕ) (i : ℕ) → i < length xs → line_feeds (take (i + 1) xs) ≡ line_feeds (take i xs) + mark (get_or xs i 0)
line_feeds-take xs i h =
    let next : i + 1 ≡ suc i = omega arith in
    let one : line_feeds (get_or xs i 0 ∷ []) ≡ mark (get_or xs i 0) = omega (arith, line_feeds-cons (get_or xs i 0) [], line_feeds-nil) in
    ap (λ n. line_feeds (take n xs)) next ∙ ap line_feeds (take-suc xs i 0 h) ∙ line_feeds-append (take i xs) (get_or xs i 0 ∷ [])
    ∙ ap (λ n. line_feeds (take i xs) + n) one

lines_end-drop : (xs : List ℕ) (i left : ℕ) → i < length xs → 0 < left
    → lines_end left (drop i xs) ≡ suc (lines_end (left - mark (get_or xs i 0)) (drop (i + 1) xs))
lines_end-drop xs i left h some =
    let next : suc i ≡ i + 1 = omega arith in
    ap (lines_end left) (drop-cons xs i 0 h) ∙ lines_end-more left (get_or xs i 0) (drop (suc i) xs) some
    ∙ ap (λ n. suc (lines_end (left - mark (get_or xs i 0)) (drop n xs))) next

-- one turn of the loop that looks for the end of the line feeds
pub turn : (xs : List ℕ) (i left m : ℕ) → i < length xs → 0 < left → mark (get_or xs i 0) ≡ m → lines_end 66 xs ≡ i + lines_end left (drop i xs)
    → left + line_feeds (take i xs) ≡ 66
    → (lines_end 66 xs ≡ (i + 1) + lines_end (left - m) (drop (i + 1) xs)) × ((left - m) + line_feeds (take (i + 1) xs) ≡ 66)
turn xs i left m h some is end count =
    let small = small_mark (get_or xs i 0) in
    let here = lines_end-drop xs i left h some in
    let more = line_feeds-take xs i h in
    let same : lines_end (left - mark (get_or xs i 0)) (drop (i + 1) xs) ≡ lines_end (left - m) (drop (i + 1) xs) =
    ap (λ k. lines_end (left - k) (drop (i + 1) xs)) is in
    (omega arith, omega arith)

-- the end of no lines is at the front
pub no_more : (bs : List ℕ) → lines_end 0 bs ≡ 0
no_more [] = refl
no_more (b ∷ bs) = refl

-- a head with fields has a line feed for each, and two more
pub head_lines : (h : RequestHead) → length h.fields + 2 ≤ line_feeds (print_request h)
unfolding print_request
head_lines h =
    let section = print_section h.fields h.last in
    let front = print_blank h.blank ++ h.method ++ space ∷ h.target ++ space ∷ print_version h.minor in
    let line = front ++ print_end h.line_end in
    omega (
      arith,
      line_feeds-append line section,
      line_feeds-append front (print_end h.line_end),
      line_feeds-append (flat_map print_field h.fields) (print_end h.last),
      field_lines h.fields,
      one_line h.line_end,
      one_line h.last,
    )

-- bytes with a head at the front have its line feeds
pub lines_over : (buf : List ℕ) (h : RequestHead) (rest : List ℕ) → ReadsRequest buf h rest → length h.fields + 2 ≤ line_feeds buf
lines_over buf h rest r = omega (arith, head_lines h, line_feeds-append (print_request h) rest, ap line_feeds r.1)

-- of nothing nothing is taken
pub take-nil : (n : ℕ) → take {A = ℕ} n [] ≡ []
take-nil zero = refl
take-nil (suc n) = refl

few_lines : (n : ℕ) (bs : List ℕ) → line_feeds (take (lines_end n bs) bs) ≤ n
few_lines n [] = omega (arith, line_feeds-nil, ap line_feeds (take-nil n))
few_lines zero (b ∷ bs) = omega (arith, line_feeds-nil)
few_lines (suc k) (b ∷ bs) = rw (lines_end-more (suc k) b bs (omega arith))
    (omega (arith, small_mark b, line_feeds-cons b (take (lines_end (suc k - mark b) bs) bs), few_lines (suc k - mark b) bs))

-- the bytes looked at hold 66 line feeds at most
pub shown_lines : (bs : List ℕ) → line_feeds (shown bs) ≤ 66
shown_lines bs = few_lines 66 (take 16384 bs)

-- no head at the front has more than 64 fields
pub few_fields : (bs : List ℕ) (h : RequestHead) (rest : List ℕ) → ReadsRequest (shown bs) h rest → length h.fields ≤ 64
few_fields bs h rest r = omega (arith, lines_over (shown bs) h rest r, shown_lines bs)

-- with room for 64 fields no head overflows
pub none_overflows : (bs : List ℕ) (room : ℕ) → 64 ≤ room → RequestOverflows room (shown bs) → HasNoRequest (shown bs)
none_overflows bs room enough over h rest r =
    let more = over [] h rest (r.0, append-nil (shown bs) ∙ r.1) in
    omega (arith, more, few_fields bs h rest r)

-- fields that exceed the room fill all 66 lines
pub full_exceeds : (bs : List ℕ) (room : ℕ) → 64 ≤ room → RequestExceeds room (shown bs) → line_feeds (shown bs) ≡ 66
full_exceeds bs room enough (front, rest, split, h, r, over) =
    let one = line_feeds-append front (print_end lf) in
    let whole = ap line_feeds split ∙ line_feeds-append front rest in
    omega (arith, lines_over (front ++ print_end lf) h [] r, over, shown_lines bs, one, whole, one_line lf)
