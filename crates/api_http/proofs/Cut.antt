-- What is known of a head in the bytes that have come stays true when more come.
use Rattle.std.proofs.Common.{◌≡◌, ℕ, zero, suc, ◌+◌, ◌-◌, ◌<◌, ◌≤◌, List, [], ◌∷◌, ◌++◌, length, take, drop, refl, sym, ap, ◌∙◌, arith, append_assoc}
use Rattle.std.proofs.lemmas.List.{take-append-drop, take-append-le}
use Rattle.api_http.specs.Heads.{line_feeds, lines_end, shown}
use Rattle.api_http.proofs.Lines.{mark, lines_end-more, line_feeds-nil, line_feeds-cons}

-- the bytes that are looked at, and those past them
pub past_shown : (bs : List ℕ) → (tail : List ℕ) × (bs ≡ shown bs ++ tail)
past_shown bs =
    let near = take 16384 bs in
    let n = lines_end 66 near in (
      drop n near ++ drop 16384 bs,
      sym (take-append-drop 16384 bs) ∙ ap (λ l. l ++ drop 16384 bs) (sym (take-append-drop n near)) ∙ append_assoc (take n near) (drop n near) (drop 16384 bs),
    )

-- what is taken of the front goes on where more comes
pub near_grows : (n : ℕ) (xs ys : List ℕ) → (zs : List ℕ) × (take n (xs ++ ys) ≡ take n xs ++ zs)
near_grows zero xs ys = ([], refl)
near_grows (suc n) [] ys = (take (suc n) ys, refl)
near_grows (suc n) (x ∷ xs) ys = let rest = near_grows n xs ys in (rest.0, ap (λ l. x ∷ l) rest.1)

full_end : (n : ℕ) (xs ys : List ℕ) → line_feeds (take (lines_end n xs) xs) ≡ n → take (lines_end n (xs ++ ys)) (xs ++ ys) ≡ take (lines_end n xs) xs
full_end zero [] [] h = refl
full_end zero [] (y ∷ ys) h = refl
full_end (suc n) [] ys h = let none : line_feeds [] ≡ suc n = h in absurd (omega (arith, none, line_feeds-nil))
full_end zero (x ∷ xs) ys h = refl
full_end (suc n) (x ∷ xs) ys h =
    let some : 0 < suc n = omega arith in
    let here = lines_end-more (suc n) x xs some in
    let there = lines_end-more (suc n) x (xs ++ ys) some in
    let counted : mark x + line_feeds (take (lines_end (suc n - mark x) xs) xs) ≡ suc n =
    sym (line_feeds-cons x (take (lines_end (suc n - mark x) xs) xs)) ∙ ap (λ k. line_feeds (take k (x ∷ xs))) (sym here) ∙ h in
    let inner : line_feeds (take (lines_end (suc n - mark x) xs) xs) ≡ suc n - mark x = omega arith in
    rw (here, there) (ap (λ l. x ∷ l) (full_end (suc n - mark x) xs ys inner))

-- where all the line feeds are there, nothing more is looked at
pub full_stays : (bs more : List ℕ) → line_feeds (shown bs) ≡ 66 → shown (bs ++ more) ≡ shown bs
full_stays bs more full =
    let near = near_grows 16384 bs more in
    ap (λ l. take (lines_end 66 l) l) near.1 ∙ full_end 66 (take 16384 bs) near.0 full

-- where 16,384 bytes are there, nothing more is looked at
pub long_stays : (bs more : List ℕ) → 16384 ≤ length bs → shown (bs ++ more) ≡ shown bs
long_stays bs more long = ap (λ l. take (lines_end 66 l) l) (take-append-le 16384 bs more long)
