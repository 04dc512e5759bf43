-- One text leads the other just where the list of its parts is a prefix of the other's.
use Rattle.std.proofs.Common.{arith, ◌≤◌, inl, inr, eq-eqb, eqb-true, cond, length, take, drop, nat_lt, ◌≡◌, ◌≢◌, ℕ}
use Rattle.std.proofs.Common.{zero, suc, Bool, true, false, ◌==◌, ◌&&◌, List, [], ◌∷◌, refl, sym, ◌∙◌, ap}
use Rattle.std.specs.declared.cmp.Ordering.{Ordering}
use Rattle.std.specs.declared.cmp.Ordering.TheVariants.{Less, Equal, Greater}
use Rattle.std.specs.Ordering.{ordering_then, nat_cmp, eq_by_cmp, is_eq}
use Rattle.std.specs.Cmp.Lexicographic.{pointwise}
use Rattle.std.proofs.lemmas.Bool.{true≢false, and_parts, cases_eq, ne_eqb, leb-true, false_from_ne_true}
use Rattle.key_names.specs.Order.{bytes_cmp}
use Rattle.key_names.specs.Key.{is_prefix}
use Rattle.key_names.specs.Packed.{parts, leads}
use Rattle.key_names.proofs.Packed.{parted, parted_past}

-- Equal bytes tie.
nat_cmp-same : (x y : ℕ) → x ≡ y → nat_cmp x y ≡ Equal
nat_cmp-same x y is = rw (false_from_ne_true (nat_lt x y) (λ less. omega (arith, is, leb-true (suc x) y less)), eq-eqb x y is) refl

-- Bytes that differ decide.
untied : (x y : ℕ) → x ≢ y → (rest : Ordering) → is_eq (ordering_then (nat_cmp x y) rest) ≡ false
untied x y other rest = rw (ne_eqb x y other) (by (nat_lt x y))
  where
    by : (less : Bool) → is_eq (ordering_then (cond less Less Greater) rest) ≡ false
    by true = refl
    by false = refl

-- To lead a text is to be a prefix of its parts.
pub prefix : (a b : List ℕ) → is_prefix (parts a) (parts b) ≡ leads a b
prefix [] [] = refl
prefix [] (zero ∷ b) = refl
prefix [] (suc n ∷ b) = ap (λ l. is_prefix ([] ∷ []) l) (parted_past n b (parted b)) ∙ sym (ne_eqb (suc n) 0 (λ is. omega (arith, is)))
prefix (zero ∷ a) [] = ap (λ l. pointwise (eq_by_cmp bytes_cmp) l (take (length l) [])) (parted a).is
prefix (suc m ∷ a) [] = ap (λ l. is_prefix l ([] ∷ [])) (parted_past m a (parted a))
prefix (zero ∷ a) (zero ∷ b) = prefix a b
prefix (zero ∷ a) (suc n ∷ b) =
    ap (λ l. is_prefix ([] ∷ parts a) l) (parted_past n b (parted b)) ∙ sym (ap (λ t. t && leads a b) (ne_eqb 0 (suc n) (λ is. omega (arith, is))))
prefix (suc m ∷ a) (zero ∷ b) =
    ap (λ l. is_prefix l ([] ∷ parts b)) (parted_past m a (parted a)) ∙ sym (ap (λ t. t && leads a b) (ne_eqb (suc m) 0 (λ is. omega (arith, is))))
prefix (suc m ∷ a) (suc n ∷ b) =
    let p = parted a in
    let q = parted b in
    let tail = pointwise (eq_by_cmp bytes_cmp) p.others (take (length p.others) q.others) in
    let whole : is_prefix (parts (suc m ∷ a)) (parts (suc n ∷ b)) ≡ is_prefix ((suc m ∷ p.first) ∷ p.others) ((suc n ∷ q.first) ∷ q.others) =
    λ i. is_prefix (parted_past m a p i) (parted_past n b q i) in
    let rest : is_prefix (p.first ∷ p.others) (q.first ∷ q.others) ≡ leads a b = sym (λ i. is_prefix (p.is i) (q.is i)) ∙ prefix a b in
    elim (cases_eq (suc m) (suc n)) [
      | inl same ↦ whole
          ∙ ap (λ o. is_eq (ordering_then o (bytes_cmp p.first q.first)) && tail) (nat_cmp-same (suc m) (suc n) same)
          ∙ rest
          ∙ sym (ap (λ t. t && leads a b) (eq-eqb (suc m) (suc n) same))
      | inr other ↦ whole
          ∙ ap (λ t. t && tail) (untied (suc m) (suc n) other (bytes_cmp p.first q.first))
          ∙ sym (ap (λ t. t && leads a b) (ne_eqb (suc m) (suc n) other))
    ]

-- Where the other text begins with this one, what follows decides.
pub leads-on : (a b back : List ℕ) → pointwise (λ x y. x == y) (take (length a) b) a ≡ true → back ≡ drop (length a) b → length a ≤ length b
    → leads a b ≡ leads [] back
leads-on [] b back same is long = ap (leads []) (sym is)
leads-on (x ∷ a) [] back same is long = absurd (omega (arith, long))
leads-on (x ∷ a) (y ∷ b) back same is long =
    let parts_hold = and_parts (y == x) (pointwise (λ x' y'. x' == y') (take (length a) b) a) same in
    ap (λ t. t && leads a b) (eq-eqb x y (sym (eqb-true y x parts_hold.0))) ∙ leads-on a b back parts_hold.1 is (omega (arith, long))

-- Where it does not, this one does not lead.
pub leads-off : (a b : List ℕ) → pointwise (λ x y. x == y) (take (length a) b) a ≡ false → leads a b ≡ false
leads-off [] b other = absurd (true≢false other)
leads-off (x ∷ a) [] other = refl
leads-off (x ∷ a) (y ∷ b) other =
    elim (cases_eq x y) [
      | inl same ↦ ap (λ t. t && leads a b) (eq-eqb x y same) ∙ leads-off a b
          (sym (ap (λ t. t && pointwise (λ x' y'. x' == y') (take (length a) b) a) (eq-eqb y x (sym same))) ∙ other)
      | inr apart ↦ ap (λ t. t && leads a b) (ne_eqb x y apart)
    ]
