-- A head within the limits is a head of the bytes that are looked at, and the other way round.
use Rattle.std.proofs.Common.{◌≡◌, ℕ, zero, suc, ◌+◌, ◌-◌, ◌≤◌, List, [], ◌∷◌, ◌++◌, length, take, drop, refl, sym, ap, ◌∙◌, arith, append_assoc, length-append}
use Rattle.std.proofs.lemmas.List.{take-append-drop}
use Rattle.std.specs.List.{flat_map}
use Rattle.httparse.specs.Ascii.{space}
use Rattle.httparse.specs.Grammar.{LineEnd, crlf, lf, print_end, print_field, print_blank, print_version, RequestHead, print_request, ReadsRequest}
use Rattle.api_http.specs.Heads.{line_feeds, lines_end, shown}
use Rattle.api_http.proofs.Lines.{mark, line_feeds-append, line_feeds-cons, one_line, lines_end-more, shown_lines}

take_past : (xs ys : List ℕ) (n k : ℕ) → n ≡ length xs + k → take n (xs ++ ys) ≡ xs ++ take k ys
take_past [] ys n k e = let same : n ≡ k = omega arith in ap (λ m. take m ys) same
take_past (x ∷ xs) ys zero k e = absurd (omega arith)
take_past (x ∷ xs) ys (suc n) k e = let less : n ≡ length xs + k = omega arith in ap (λ l. x ∷ l) (take_past xs ys n k less)

-- what ends in a line feed, with no more of them than n, is passed whole
past_lines : (n : ℕ) (zs ys : List ℕ) → line_feeds zs + 1 ≤ n → (k : ℕ) × (lines_end n ((zs ++ 10 ∷ []) ++ ys) ≡ length (zs ++ 10 ∷ []) + k)
past_lines n [] ys h = (lines_end (n - mark 10) ys, lines_end-more n 10 ys (omega arith) ∙ omega arith)
past_lines n (z ∷ zs) ys h =
    let fewer : line_feeds zs + 1 ≤ n - mark z = omega (arith, line_feeds-cons z zs, h) in
    let rest = past_lines (n - mark z) zs ys fewer in
    (rest.0, lines_end-more n z ((zs ++ 10 ∷ []) ++ ys) (omega (arith, h)) ∙ ap suc rest.1 ∙ omega arith)

end_feed : (e : LineEnd) → (zs : List ℕ) × (print_end e ≡ zs ++ 10 ∷ [])
end_feed crlf = (13 ∷ [], refl)
end_feed lf = ([], refl)

last_feed : (h : RequestHead) → (zs : List ℕ) × (print_request h ≡ zs ++ 10 ∷ [])
unfolding print_request
last_feed h =
    let front = print_blank h.blank ++ h.method ++ space ∷ h.target ++ space ∷ print_version h.minor ++ print_end h.line_end in
    let fields = flat_map print_field h.fields in
    let end = end_feed h.last in (
      front ++ (fields ++ end.0),
      ap (λ l. front ++ (fields ++ l)) end.1 ∙ ap (λ l. front ++ l) (sym (append_assoc fields end.0 (10 ∷ [])))
          ∙ sym (append_assoc front (fields ++ end.0) (10 ∷ [])),
    )

-- a head within the limits lies in the bytes looked at
pub head_in_shown : (bs : List ℕ) (h : RequestHead) (rest : List ℕ) → ReadsRequest bs h rest → length (print_request h) ≤ 16384
    → line_feeds (print_request h) ≤ 66
    → (more : List ℕ) × ReadsRequest (shown bs) h more
head_in_shown bs h rest r short few =
    let text = print_request h in
    let last = last_feed h in
    let ends : line_feeds last.0 + 1 ≤ 66 = omega (arith, few, ap line_feeds last.1, line_feeds-append last.0 (10 ∷ []), one_line lf) in
    let cut = 16384 - length text in
    let near : take 16384 bs ≡ text ++ take cut rest = ap (take 16384) r.1 ∙ take_past text rest 16384 cut (omega (arith, short)) in
    let past = past_lines 66 last.0 (take cut rest) ends in
    let whole : lines_end 66 (text ++ take cut rest) ≡ length text + past.0 = ap (λ l. lines_end 66 (l ++ take cut rest)) last.1 ∙ past.1
    ∙ ap (λ l. length l + past.0) (sym last.1) in
    let all : shown bs ≡ text ++ take past.0 (take cut rest) = ap (λ l. take (lines_end 66 l) l) near ∙ take_past text (take cut rest) _ past.0 whole in
    (take past.0 (take cut rest), (r.0, all))

length-take-most : (n : ℕ) (xs : List ℕ) → length (take n xs) ≤ n
length-take-most zero xs = omega arith
length-take-most (suc n) [] = omega arith
length-take-most (suc n) (x ∷ xs) = omega (arith, length-take-most n xs)

-- what is taken is no longer
pub length-take-shorter : (n : ℕ) (xs : List ℕ) → length (take n xs) ≤ length xs
length-take-shorter zero xs = omega arith
length-take-shorter (suc n) [] = omega arith
length-take-shorter (suc n) (x ∷ xs) = omega (arith, length-take-shorter n xs)

-- a head in the bytes looked at is one of all bytes, within the limits
pub head_from_shown : (bs : List ℕ) (h : RequestHead) (more : List ℕ) → ReadsRequest (shown bs) h more
    → ((rest : List ℕ) × ReadsRequest bs h rest) × (length (print_request h) ≤ 16384) × (line_feeds (print_request h) ≤ 66)
head_from_shown bs h more r =
    let near = take 16384 bs in
    let n = lines_end 66 near in
    let split : bs ≡ print_request h ++ (more ++ (drop n near ++ drop 16384 bs)) =
    sym (take-append-drop 16384 bs) ∙ ap (λ l. l ++ drop 16384 bs) (sym (take-append-drop n near) ∙ ap (λ l. l ++ drop n near) r.1)
    ∙ ap (λ l. l ++ drop 16384 bs) (append_assoc (print_request h) more (drop n near)) ∙ append_assoc (print_request h) (more ++ drop n near) (drop 16384 bs)
    ∙ ap (λ l. print_request h ++ l) (append_assoc more (drop n near) (drop 16384 bs)) in (
      (more ++ (drop n near ++ drop 16384 bs), (r.0, split)),
      omega (arith, ap length r.1, length-append (print_request h) more, length-take-most 16384 bs, length-take-shorter n near),
      omega (arith, ap line_feeds r.1, line_feeds-append (print_request h) more, shown_lines bs),
    )
