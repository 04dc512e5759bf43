-- The order of texts with zero bytes between their parts is the order of the lists of their parts.
use Rattle.std.proofs.Common.{arith, nat_lt, ◌≡◌, ℕ, zero, suc, List, [], ◌∷◌, refl, sym, ◌∙◌, ap}
use Rattle.std.specs.declared.cmp.Ordering.{Ordering}
use Rattle.std.specs.declared.cmp.Ordering.TheVariants.{Less, Equal, Greater}
use Rattle.std.specs.Ordering.{ordering_then, nat_cmp}
use Rattle.std.specs.Cmp.Lexicographic.{slice_cmp}
use Rattle.std.proofs.lemmas.Bool.{ne_eqb, le-leb, leb-true, false_from_ne_true}
use Rattle.key_names.specs.Order.{bytes_cmp, key_cmp}
use Rattle.key_names.specs.Packed.{parts}
use Rattle.key_names.proofs.Packed.{parted, parted_past}

-- Zero is below each other byte.
below : (n : ℕ) → nat_cmp 0 (suc n) ≡ Less
below n = rw (le-leb 1 (suc n) (omega arith)) refl

-- Each other byte is above zero.
above : (m : ℕ) → nat_cmp (suc m) 0 ≡ Greater
above m = rw (false_from_ne_true (nat_lt (suc m) 0) (λ less. omega (arith, leb-true (suc (suc m)) 0 less)), ne_eqb (suc m) 0 (λ is. omega (arith, is))) refl

-- What decides first decides.
then_assoc : (a b c : Ordering) → ordering_then (ordering_then a b) c ≡ ordering_then a (ordering_then b c)
then_assoc Less b c = refl
then_assoc Equal b c = refl
then_assoc Greater b c = refl

-- Texts are ordered as the lists of their parts.
pub order : (a b : List ℕ) → bytes_cmp a b ≡ key_cmp (parts a) (parts b)
order [] [] = refl
order [] (zero ∷ b) = sym (ap (λ l. slice_cmp bytes_cmp [] l) (parted b).is)
order [] (suc n ∷ b) = sym (ap (λ l. key_cmp ([] ∷ []) l) (parted_past n b (parted b)))
order (zero ∷ a) [] = sym (ap (λ l. slice_cmp bytes_cmp l []) (parted a).is)
order (suc m ∷ a) [] = sym (ap (λ l. key_cmp l ([] ∷ [])) (parted_past m a (parted a)))
order (zero ∷ a) (zero ∷ b) = order a b
order (zero ∷ a) (suc n ∷ b) = ap (λ o. ordering_then o (bytes_cmp a b)) (below n) ∙ sym (ap (λ l. key_cmp ([] ∷ parts a) l) (parted_past n b (parted b)))
order (suc m ∷ a) (zero ∷ b) = ap (λ o. ordering_then o (bytes_cmp a b)) (above m) ∙ sym (ap (λ l. key_cmp l ([] ∷ parts b)) (parted_past m a (parted a)))
order (suc m ∷ a) (suc n ∷ b) =
    let p = parted a in
    let q = parted b in
    let rest : bytes_cmp a b ≡ ordering_then (bytes_cmp p.first q.first) (key_cmp p.others q.others) =
    order a b ∙ (λ i. key_cmp (p.is i) (q.is i)) in
    ap (λ o. ordering_then (nat_cmp (suc m) (suc n)) o) rest
    ∙ sym (then_assoc (nat_cmp (suc m) (suc n)) (bytes_cmp p.first q.first) (key_cmp p.others q.others))
    ∙ sym (λ i. key_cmp (parted_past m a p i) (parted_past n b q i))
