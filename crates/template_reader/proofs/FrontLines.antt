-- The front, found by a scan, is the lines before the first that is exactly `+++`.
use Rattle.std.proofs.Common.{arith, ◌≡◌, ℕ, suc, ◌+◌, Bool, true, false, cond, ◌==◌, List, [], ◌∷◌, ◌++◌, length, Option, Some, None, refl, sym, ◌∙◌, ap}
use Rattle.std.specs.Prelude.{◌&&◌, ◌||◌, codes, nat_eq}
use Rattle.std.specs.List.{slice_split, onto_first}
use Rattle.std.specs.Str.{bytes_eq}
use Rattle.std.proofs.lemmas.Bool.{eq-eqb, eqb-true}
use Rattle.std.proofs.Math.Dec.{eqb-suc-zero}
use Rattle.std.specs.Cmp.{both_ways}
use Rattle.template_reader.specs.Bytes.{begins, more}
use Rattle.template_reader.specs.Front.{is_fence, fence_in, front_length}
use Rattle.template_reader.specs.Places.{before_line, FrontsEnd}

-- The lines of the bytes.
abbrev lines : List ℕ → List (List ℕ)
lines bytes = slice_split (λ b. b == 10) bytes

-- Whether the first line is this one.
abbrev first_is : List ℕ → List (List ℕ) → Bool
first_is line [] = false
first_is line (l ∷ ls) = bytes_eq l line

-- How many bytes are before the first such line after the first one.
abbrev behind : List ℕ → List (List ℕ) → Option ℕ
behind line [] = None
behind line (l ∷ ls) = more (length l + 1) (before_line line ls)

before_first : (line : List ℕ) (ls : List (List ℕ)) → before_line line ls ≡ cond (first_is line ls) (Some 0) (behind line ls)
before_first line [] = refl
before_first line (l ∷ ls) = refl

same : (m n : ℕ) → m ≡ n → nat_eq m n ≡ true
same m n e = eq-eqb m n e

same_bytes : (m n : ℕ) → nat_eq m n ≡ nat_eq n m
same_bytes m n = both_ways _ _ (λ e. same n m (sym (eqb-true m n e))) (λ e. same m n (sym (eqb-true n m e)))

same_suc : (m n : ℕ) → nat_eq (suc m) (suc n) ≡ nat_eq m n
same_suc m n = both_ways _ _
    (λ e. same m n (let lower : suc m ≡ suc n = eqb-true (suc m) (suc n) e in omega (arith, lower)))
    (λ e. same (suc m) (suc n) (let higher : m ≡ n = eqb-true m n e in omega (arith, higher)))

not_zero : (m : ℕ) → nat_eq (suc m) 0 ≡ false
not_zero m = eqb-suc-zero m

-- A line is at the start, ended by LF or by the end.
abbrev stands_first : List ℕ → List ℕ → Bool
stands_first line bytes = begins bytes (line ++ 10 ∷ []) || (begins bytes line && length bytes == length line)

-- The line has no LF.
abbrev IsOneLine : List ℕ → Type 0
IsOneLine [] = Unit {0}
IsOneLine (c ∷ cs) = (nat_eq c 10 ≡ false) × IsOneLine cs

-- There is a line.
lines_some : (bytes : List ℕ) → (l : List ℕ) × (ls : List (List ℕ)) × (lines bytes ≡ l ∷ ls)
lines_some [] = ([], [], refl)
lines_some (b ∷ bs) = by (b == 10) (lines bs) where
  by : (t : Bool) (rest : List (List ℕ)) → (l : List ℕ) × (ls : List (List ℕ)) × (cond t ([] ∷ rest) (onto_first b rest) ≡ l ∷ ls)
  by true rest = ([], rest, refl)
  by false [] = (b ∷ [], [], refl)
  by false (l ∷ ls) = (b ∷ l, ls, refl)

onto_other : (b c : ℕ) (cs : List ℕ) (rest : List (List ℕ)) → nat_eq b c ≡ false → first_is (c ∷ cs) (onto_first b rest) ≡ false
onto_other b c cs [] other = ap (λ t. t && bytes_eq [] cs) other
onto_other b c cs (l ∷ ls) other = ap (λ t. t && bytes_eq l cs) other

onto_same : (b c : ℕ) (cs : List ℕ) (rest l : List ℕ) (all ls : List (List ℕ)) → all ≡ l ∷ ls → nat_eq b c ≡ true
    → first_is (c ∷ cs) (onto_first b all) ≡ first_is cs all
onto_same b c cs rest l all ls is same = ap (λ x. first_is (c ∷ cs) (onto_first b x)) is ∙ ap (λ t. t && bytes_eq l cs) same ∙ sym (ap (first_is cs) is)

onto_none : (b : ℕ) (rest : List (List ℕ)) → first_is [] (onto_first b rest) ≡ false
onto_none b [] = refl
onto_none b (l ∷ ls) = refl

no_line : (b : ℕ) (bs : List ℕ) (t : Bool) → (b == 10) ≡ t → stands_first [] (b ∷ bs) ≡ first_is [] (cond t ([] ∷ lines bs) (onto_first b (lines bs)))
no_line b bs true is = ap (λ t. (t && true) || (true && nat_eq (suc (length bs)) 0)) (same_bytes 10 b ∙ is)
no_line b bs false is =
    ap (λ t. (t && true) || (true && nat_eq (suc (length bs)) 0)) (same_bytes 10 b ∙ is) ∙ not_zero (length bs) ∙ sym (onto_none b (lines bs))

-- The first line is this one exactly where it is at the start, ended by LF or by the end.
line_first : (line bytes : List ℕ) → IsOneLine line → stands_first line bytes ≡ first_is line (lines bytes)
line_first [] [] plain = refl
line_first [] (b ∷ bs) plain = no_line b bs (b == 10) refl
line_first (c ∷ cs) [] plain = refl
line_first (c ∷ cs) (b ∷ bs) plain = by (nat_eq c b) refl (line_first cs bs plain.1) (lines_some bs) where
  at : (t : Bool) → nat_eq c b ≡ t → stands_first (c ∷ cs) (b ∷ bs) ≡ ((t && begins bs (cs ++ 10 ∷ []))
      || ((t && begins bs cs) && nat_eq (length bs) (length cs)))
  at t is = ap (λ t. (t && begins bs (cs ++ 10 ∷ [])) || ((t && begins bs cs) && nat_eq (suc (length bs)) (suc (length cs)))) is
      ∙ ap (λ u. (t && begins bs (cs ++ 10 ∷ [])) || ((t && begins bs cs) && u)) (same_suc (length bs) (length cs))

  other : (t : Bool) → nat_eq c b ≡ false → false ≡ first_is (c ∷ cs) (cond t ([] ∷ lines bs) (onto_first b (lines bs)))
  other true is = refl
  other false is = sym (onto_other b c cs (lines bs) (same_bytes b c ∙ is))

  by : (t : Bool) → nat_eq c b ≡ t → stands_first cs bs ≡ first_is cs (lines bs) → ((l : List ℕ) × (ls : List (List ℕ)) × (lines bs ≡ l ∷ ls))
      → stands_first (c ∷ cs) (b ∷ bs) ≡ first_is (c ∷ cs) (lines (b ∷ bs))
  by false is rest some = at false is ∙ other (b == 10) is
  by true is rest some =
      at true is ∙ rest ∙ sym (ap (λ t. first_is (c ∷ cs) (cond t ([] ∷ lines bs) (onto_first b (lines bs))))
      (ap (λ x. nat_eq x 10) (sym (eqb-true c b is)) ∙ plain.0)
      ∙ onto_same b c cs [] some.0 (lines bs) some.1 some.2 (same_bytes b c ∙ is))

abbrev plus : List ℕ
plus = codes "+++"

fence_first : (bytes : List ℕ) → is_fence bytes ≡ first_is plus (lines bytes)
fence_first bytes = line_first plus bytes (refl, (refl, (refl, tt)))

more_twice : (n : ℕ) (o : Option ℕ) → more 1 (more (n + 1) o) ≡ more (suc n + 1) o
more_twice n None = refl
more_twice n (Some k) = ap (λ (l : ℕ). Some l) (omega arith)

behind_onto : (b : ℕ) (rest : List (List ℕ)) → more 1 (behind plus rest) ≡ behind plus (onto_first b rest)
behind_onto b [] = refl
behind_onto b (l ∷ ls) = more_twice (length l) (before_line plus ls)

both_fronts : (bytes : List ℕ) → (fence_in true bytes ≡ before_line plus (lines bytes)) × (fence_in false bytes ≡ behind plus (lines bytes))
unfolding fence_in
both_fronts [] = (refl, refl)
both_fronts (b ∷ bs) = here (next (b == 10) (both_fronts bs)) where
  next : (t : Bool) → (fence_in true bs ≡ before_line plus (lines bs)) × (fence_in false bs ≡ behind plus (lines bs))
      → more 1 (fence_in t bs) ≡ behind plus (cond t ([] ∷ lines bs) (onto_first b (lines bs)))
  next true both = ap (more 1) both.0
  next false both = ap (more 1) both.1 ∙ behind_onto b (lines bs)

  here : more 1 (fence_in (b == 10) bs) ≡ behind plus (lines (b ∷ bs)) → (fence_in true (b ∷ bs) ≡ before_line plus (lines (b ∷ bs)))
      × (fence_in false (b ∷ bs) ≡ behind plus (lines (b ∷ bs)))
  here rest = (
    ap (λ t. cond t (Some 0) (more 1 (fence_in (b == 10) bs))) (fence_first (b ∷ bs)) ∙ ap (cond (first_is plus (lines (b ∷ bs))) (Some 0)) rest
        ∙ sym (before_first plus (lines (b ∷ bs))),
    rest,
  )

pub fronts_end : FrontsEnd
unfolding front_length
fronts_end source = (both_fronts source).0
