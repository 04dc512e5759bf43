-- Lists of bytes, cut in one way.
use Rattle.std.proofs.Common.{◌≡◌, ◌≢◌, ℕ, ◌+◌, ◌<◌, List, [], ◌∷◌, ◌++◌, length, take, get_or, refl, sym, subst, arith}
use Rattle.std.proofs.lemmas.List.{take_more}
use Rattle.commit_journal.specs.Parts.{Lacks}

-- two lists that lack a byte lack it in a row
pub Lacks-append : (c : ℕ) (xs ys : List ℕ) → Lacks c xs → Lacks c ys → Lacks c (xs ++ ys)
Lacks-append c [] ys first second = second
Lacks-append c (x ∷ xs) ys first second = (first.0, Lacks-append c xs ys first.1 second)

-- one more element that is another byte
pub lacks_more : (c : ℕ) (xs : List ℕ) (i : ℕ) → i < length xs → Lacks c (take i xs) → get_or xs i 0 ≢ c → Lacks c (take (i + 1) xs)
lacks_more c xs i below lacks other = subst (λ (l : List ℕ). Lacks c l) (sym (take_more xs i 0 below))
    (Lacks-append c (take i xs) (get_or xs i 0 ∷ []) lacks (other, tt))

-- a list with the byte in it does not lack it
pub lacks_none : (c : ℕ) (xs ys : List ℕ) → Lacks c (xs ++ c ∷ ys) → ⊥
lacks_none c [] ys lacks = lacks.0 refl
lacks_none c (x ∷ xs) ys lacks = lacks_none c xs ys lacks.1

-- a list is cut at its first such byte in one way
pub split_one : (c : ℕ) (xs ys p q : List ℕ) → Lacks c xs → Lacks c ys → xs ++ c ∷ p ≡ ys ++ c ∷ q → (xs ≡ ys) × (p ≡ q)
split_one c [] [] p q first second same = (refl, cc)
split_one c [] (y ∷ ys) p q first second same = absurd (second.0 cc)
split_one c (x ∷ xs) [] p q first second same = absurd (first.0 cc)
split_one c (x ∷ xs) (y ∷ ys) p q first second same =
    let head : x ≡ y = cc in
    let tail : xs ++ c ∷ p ≡ ys ++ c ∷ q = cc in
    let rest = split_one c xs ys p q first.1 second.1 tail in
    let e : xs ≡ ys = rest.0 in
    (cc, rest.1)

-- a list is cut after so many bytes in one way
pub same_length : (xs ys p q : List ℕ) → length xs ≡ length ys → xs ++ p ≡ ys ++ q → (xs ≡ ys) × (p ≡ q)
same_length [] [] p q size same = (refl, same)
same_length [] (y ∷ ys) p q size same = absurd (omega arith)
same_length (x ∷ xs) [] p q size same = absurd (omega arith)
same_length (x ∷ xs) (y ∷ ys) p q size same =
    let head : x ≡ y = cc in
    let tail : xs ++ p ≡ ys ++ q = cc in
    let rest = same_length xs ys p q (omega arith) tail in
    let e : xs ≡ ys = rest.0 in
    (cc, rest.1)

-- equal lists have one first byte
pub head_same : (x y : ℕ) (xs ys : List ℕ) → x ∷ xs ≡ y ∷ ys → x ≡ y
head_same x y xs ys same = cc
