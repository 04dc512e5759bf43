-- Keys that part at a segment.
use Rattle.std.proofs.Common.{◌≡◌, ◌<◌, ◌+◌, ℕ, zero, suc, length, get_or, drop, drop-cons, add-one, arith, inl}
use Rattle.std.proofs.Common.{inr, false, List, [], ◌∷◌, ◌++◌, Less, Equal, Greater, refl, sym, ap, ◌∙◌}
use Rattle.std.specs.Ordering.{ordering_reverse}
use Rattle.std.specs.List.{AllByRecursion, AllPairs, All}
use Rattle.std.specs.List.Sorted.{IsStrictlySortedBy}
use Rattle.std.proofs.lemmas.Cmp.{tied_itself}
use Rattle.std.proofs.lemmas.List.Kept.{AllPairs-cons}
use Rattle.key_names.specs.Key.{is_prefix, overlaps}
use Rattle.key_names.specs.Order.{bytes_cmp, bytes_total, key_cmp}
use Rattle.json_trees.specs.Apart.{AreApart, Parts, Pairwise}

-- keys that go on from the same segments part where what follows does
pub Parts-append : (front k l : List (List ℕ)) → Parts k l → Parts (front ++ k) (front ++ l)
Parts-append [] k l h = h
Parts-append (a ∷ front) k l h = inr (refl, Parts-append front k l h)

tied : (a b : List ℕ) → a ≡ b → bytes_cmp a b ≡ Equal
tied a b same = ap (bytes_cmp a) (sym same) ∙ tied_itself bytes_total a

above : (a b : List ℕ) → bytes_cmp a b ≡ Less → bytes_cmp b a ≡ Greater
above a b h = bytes_total.antisymm b a ∙ ap ordering_reverse h

-- of keys that part the first comes first
Parts-rises : (k l : List (List ℕ)) → Parts k l → key_cmp k l ≡ Less
Parts-rises [] l h = absurd h
Parts-rises (a ∷ k) [] h = absurd h
Parts-rises (a ∷ k) (b ∷ l) (inl less) = rw less refl
Parts-rises (a ∷ k) (b ∷ l) (inr same) = rw (tied a b same.0) (Parts-rises k l same.1)

no_prefix : (k l : List (List ℕ)) → Parts k l → is_prefix k l ≡ false
no_prefix [] l h = absurd h
no_prefix (a ∷ k) [] h = absurd h
no_prefix (a ∷ k) (b ∷ l) (inl less) = rw less refl
no_prefix (a ∷ k) (b ∷ l) (inr same) = rw (tied a b same.0) (no_prefix k l same.1)

no_suffix : (k l : List (List ℕ)) → Parts k l → is_prefix l k ≡ false
no_suffix [] l h = absurd h
no_suffix (a ∷ k) [] h = absurd h
no_suffix (a ∷ k) (b ∷ l) (inl less) = rw (above a b less) refl
no_suffix (a ∷ k) (b ∷ l) (inr same) = rw (tied b a (sym same.0)) (no_suffix k l same.1)

-- keys that part do not overlap
Parts-apart : (k l : List (List ℕ)) → Parts k l → overlaps k l ≡ false
Parts-apart k l h = rw (no_prefix k l h, no_suffix k l h) refl

-- what holds of each element of two lists holds of each of both
pub AllByRecursion-append : {X : Type 0} (P : X → Type 0) (xs ys : List X) → AllByRecursion P xs → AllByRecursion P ys → AllByRecursion P (xs ++ ys)
AllByRecursion-append P [] ys h k = k
AllByRecursion-append P (x ∷ xs) ys h k = (h.0, AllByRecursion-append P xs ys h.1 k)

-- what holds of each element and gives another fact gives it of each
pub AllByRecursion-weaker : {X : Type 0} (P Q : X → Type 0) (xs : List X) → ((x : X) → P x → Q x) → AllByRecursion P xs → AllByRecursion Q xs
AllByRecursion-weaker P Q [] f h = tt
AllByRecursion-weaker P Q (x ∷ xs) f h = (f x h.0, AllByRecursion-weaker P Q xs f h.1)

-- what holds within two lists, and of each of the first and each of the second, holds within both
pub Pairwise-append : {X : Type 0} (R : X → X → Type 0) (P Q : X → Type 0) (xs ys : List X) → ((x y : X) → P x → Q y → R x y) → AllByRecursion P xs
    → AllByRecursion Q ys
    → Pairwise R xs → Pairwise R ys → Pairwise R (xs ++ ys)
Pairwise-append R P Q [] ys across p q h k = k
Pairwise-append R P Q (x ∷ xs) ys across p q h k = (
  AllByRecursion-append (λ y. R x y) xs ys h.0 (AllByRecursion-weaker Q (λ y. R x y) ys (λ y held. across x y p.0 held) q),
  Pairwise-append R P Q xs ys
      across p.1 q h.1 k,
)

rising : (keys : List (List (List ℕ))) → Pairwise Parts keys → IsStrictlySortedBy key_cmp keys
unfolding IsStrictlySortedBy
rising [] h = tt
rising (k ∷ keys) h = (AllByRecursion-weaker (λ l. Parts k l) (λ l. key_cmp k l ≡ Less) keys (λ l. Parts-rises k l) h.0, rising keys h.1)

-- what holds of each by recursion holds of each by its index
pub All-from : {X : Type 0} (P : X → Type 0) (xs : List X) → AllByRecursion P xs → All P xs
All-from P [] h i d within = absurd (omega arith)
All-from P (x ∷ xs) h zero d within = h.0
All-from P (x ∷ xs) h (suc i) d within = All-from P xs h.1 i d (omega arith)

unlike : (keys : List (List (List ℕ))) → Pairwise Parts keys → AllPairs (λ key other. overlaps key other ≡ false) keys
unlike [] h = λ i j d before within. absurd (omega arith)
unlike (k ∷ keys) h =
    AllPairs-cons (λ key other. overlaps key other ≡ false) k keys
    (All-from (λ l. overlaps k l ≡ false) keys (AllByRecursion-weaker (λ l. Parts k l) (λ l. overlaps k l ≡ false) keys (λ l. Parts-apart k l) h.0))
    (unlike keys h.1)

-- keys of which each parts with each later one are apart
pub AreApart-from_Pairwise : (keys : List (List (List ℕ))) → Pairwise Parts keys → AreApart keys
AreApart-from_Pairwise keys h = record { rising = rising keys h; no_prefix = unlike keys h }

-- the first of what is left of a list
pub next_item : {X : Type 0} (xs : List X) (i : ℕ) (x : X) → i < length xs → x ≡ get_or xs i x → drop i xs ≡ x ∷ drop (i + 1) xs
next_item xs i x low is = drop-cons xs i x low ∙ ap (λ (y : _). y ∷ drop (suc i) xs) (sym is) ∙ ap (λ (n : ℕ). x ∷ drop n xs) (sym (add-one i))
