-- The scans stop at the least places that pass their tests.
use Rattle.std.proofs.Common.{arith, ◌≡◌, ℕ, zero, suc, ◌+◌, ◌<◌, Bool, true, false, not, cond, ◌==◌, List}
use Rattle.std.proofs.Common.{[], ◌∷◌, length, take, Option, Some, None, ◌⊎◌, inl, inr, refl, sym, ◌∙◌, ap, subst}
use Rattle.std.specs.Prelude.{◌&&◌, ◌||◌, codes}
use Rattle.std.proofs.lemmas.Bool.{and_from}
use Rattle.template_reader.specs.Bytes.{begins, more}
use Rattle.template_reader.specs.Cut.{text_length, through, through_dashes, through_unquoted}
use Rattle.template_reader.specs.Places.{IsLeast, stands, is_even, quotes_in, dashes_stand, dashes_end, TextsEnd, DashesEnd, CommentsEnd, TagsEnd}

-- ---- least places

least_here : (test : ℕ → Bool) → test 0 ≡ true → IsLeast test (Some 0)
least_here test is = (is, λ m low. absurd (omega (arith, low)))

from_each : (test : ℕ → Bool) → test 0 ≡ false → ((n : ℕ) → test (suc n) ≡ false) → (n : ℕ) → test n ≡ false
from_each test not_here none zero = not_here
from_each test not_here none (suc n) = none n

from_each_below : (test : ℕ → Bool) (n : ℕ) → test 0 ≡ false → ((m : ℕ) → m < n → test (suc m) ≡ false) → (m : ℕ) → m < 1 + n → test m ≡ false
from_each_below test n not_here none zero low = not_here
from_each_below test n not_here none (suc m) low = none m (omega (arith, low))

-- Where the first place fails, the least is one of the others.
least_later : (test : ℕ → Bool) (place : Option ℕ) → test 0 ≡ false → IsLeast (λ n. test (suc n)) place → IsLeast test (more 1 place)
least_later test None not_here none = from_each test not_here none
least_later test (Some n) not_here least =
    let next : suc n ≡ 1 + n = omega arith in
    (subst (λ (k : ℕ). test k ≡ true) next least.0, from_each_below test n not_here least.1)

-- The same test has the same least place.
least_same : (one other : ℕ → Bool) (place : Option ℕ) → ((n : ℕ) → one n ≡ other n) → IsLeast one place → IsLeast other place
least_same one other None same none = λ n. sym (same n) ∙ none n
least_same one other (Some n) same least = (sym (same n) ∙ least.0, λ m low. sym (same m) ∙ least.1 m low)

-- Nothing is after the end.
nil_stands : (c : ℕ) (cs : List ℕ) (n : ℕ) → stands (c ∷ cs) [] n ≡ false
nil_stands c cs zero = refl
nil_stands c cs (suc n) = refl

more_swap : (m n : ℕ) (o : Option ℕ) → more m (more n o) ≡ more n (more m o)
more_swap m n None = refl
more_swap m n (Some k) = ap (λ (l : ℕ). Some l) (omega arith)

-- ---- texts

texts_next : (b : ℕ) (bs : List ℕ) (t : Bool) → begins (b ∷ bs) (codes "{{") ≡ t → text_length (b ∷ bs) ≡ cond t 0 (1 + text_length bs)
unfolding text_length
texts_next b bs t is = ap (λ t. cond t 0 (1 + text_length bs)) is

pub texts_end : TextsEnd
unfolding text_length
texts_end [] = inr (nil_stands 123 (123 ∷ []), refl)
texts_end (b ∷ bs) = by (begins (b ∷ bs) (codes "{{")) refl (texts_end bs) where
  by : (t : Bool) → begins (b ∷ bs) (codes "{{") ≡ t
      → (IsLeast (stands (codes "{{") bs) (Some (text_length bs))) ⊎ ((IsLeast (stands (codes "{{") bs) None) × (text_length bs ≡ length bs))
      → (IsLeast (stands (codes "{{") (b ∷ bs)) (Some (text_length (b ∷ bs))))
      ⊎ ((IsLeast (stands (codes "{{") (b ∷ bs)) None) × (text_length (b ∷ bs) ≡ length (b ∷ bs)))
  by true is rest = inl (subst (λ (k : ℕ). IsLeast (stands (codes "{{") (b ∷ bs)) (Some k)) (sym (texts_next b bs true is))
      (least_here (stands (codes "{{") (b ∷ bs)) is))
  by false is (inl least) = inl (subst (λ (k : ℕ). IsLeast (stands (codes "{{") (b ∷ bs)) (Some k)) (sym (texts_next b bs false is))
      (least_later (stands (codes "{{") (b ∷ bs)) (Some (text_length bs)) is least))
  by false is (inr none) = inr (least_later (stands (codes "{{") (b ∷ bs)) None is none.0, texts_next b bs false is ∙ omega (arith, none.1))

-- ---- comments

pub through_least : (c : ℕ) (cs : List ℕ) (bytes : List ℕ) → (place : Option ℕ) × IsLeast (stands (c ∷ cs) bytes) place
    × (through (c ∷ cs) bytes ≡ more (length (c ∷ cs)) place)
unfolding through
through_least c cs [] = (None, nil_stands c cs, refl)
through_least c cs (b ∷ bs) = by (begins (b ∷ bs) (c ∷ cs)) refl (through_least c cs bs) where
  by : (t : Bool) → begins (b ∷ bs) (c ∷ cs) ≡ t
      → ((place : Option ℕ) × IsLeast (stands (c ∷ cs) bs) place × (through (c ∷ cs) bs ≡ more (length (c ∷ cs)) place))
      → (place : Option ℕ) × IsLeast (stands (c ∷ cs) (b ∷ bs)) place × (through (c ∷ cs) (b ∷ bs) ≡ more (length (c ∷ cs)) place)
  by true is rest = (
    Some 0,
    least_here (stands (c ∷ cs) (b ∷ bs)) is,
    ap (λ t. cond t (Some (length (c ∷ cs))) (more 1 (through (c ∷ cs) bs))) is
        ∙ ap (λ (l : ℕ). Some l) (omega arith),
  )
  by false is rest = (
    more 1 rest.0,
    least_later (stands (c ∷ cs) (b ∷ bs)) rest.0 is rest.1,
    ap (λ t. cond t (Some (length (c ∷ cs))) (more 1 (through (c ∷ cs) bs))) is
        ∙ ap (more 1) rest.2 ∙ more_swap 1 (length (c ∷ cs)) rest.0,
  )

pub comments_end : CommentsEnd
comments_end [] bytes low = absurd (omega (arith, low))
comments_end (c ∷ cs) bytes low = through_least c cs bytes

-- ---- comments with dashes

dashes_nil : (n : ℕ) → dashes_stand [] n ≡ false
dashes_nil zero = refl
dashes_nil (suc n) = refl

ends_more : (b : ℕ) (bs : List ℕ) (o : Option ℕ) → more 1 (dashes_end bs o) ≡ dashes_end (b ∷ bs) (more 1 o)
ends_more b bs None = refl
ends_more b bs (Some n) =
    let next : suc n ≡ 1 + n = omega arith in
    ap (λ (l : ℕ). Some l) (let assoc : 1 + (n + cond (stands (codes "--}}") bs n) 4 5) ≡ (1 + n) + cond (stands (codes "--}}") bs n) 4 5 = omega arith in
    assoc)
    ∙ ap (λ (t : Bool). Some ((1 + n) + cond t 4 5)) (ap (stands (codes "--}}") (b ∷ bs)) next)

pub dashes_least : DashesEnd
unfolding through_dashes
dashes_least [] = (None, dashes_nil, refl)
dashes_least (b ∷ bs) = by (begins (b ∷ bs) (codes "--}}")) refl (begins (b ∷ bs) (codes "--~}}")) refl (dashes_least bs) where
  by : (t : Bool) → begins (b ∷ bs) (codes "--}}") ≡ t → (u : Bool) → begins (b ∷ bs) (codes "--~}}") ≡ u
      → ((place : Option ℕ) × IsLeast (dashes_stand bs) place × (through_dashes bs ≡ dashes_end bs place))
      → (place : Option ℕ) × IsLeast (dashes_stand (b ∷ bs)) place × (through_dashes (b ∷ bs) ≡ dashes_end (b ∷ bs) place)
  by true is u other rest = (
    Some 0,
    least_here (dashes_stand (b ∷ bs)) (ap (λ t. t || begins (b ∷ bs) (codes "--~}}")) is),
    ap (λ t. cond t (Some 4) (cond (begins (b ∷ bs) (codes "--~}}")) (Some 5) (more 1 (through_dashes bs)))) is
        ∙ ap (λ (t : Bool). Some (0 + cond t 4 5)) (sym is),
  )
  by false is true other rest = (
    Some 0,
    least_here (dashes_stand (b ∷ bs)) (ap (λ t. t || begins (b ∷ bs) (codes "--~}}")) is ∙ other),
    ap (λ t. cond t (Some 4) (cond (begins (b ∷ bs) (codes "--~}}")) (Some 5) (more 1 (through_dashes bs)))) is
        ∙ ap (λ t. cond t (Some 5) (more 1 (through_dashes bs))) other ∙ ap (λ (t : Bool). Some (0 + cond t 4 5)) (sym is),
  )
  by false is false other rest = (
    more 1 rest.0,
    least_later (dashes_stand (b ∷ bs)) rest.0 (ap (λ t. t || begins (b ∷ bs) (codes "--~}}")) is ∙ other) rest.1,
    ap (λ t. cond t (Some 4) (cond (begins (b ∷ bs) (codes "--~}}")) (Some 5) (more 1 (through_dashes bs)))) is
        ∙ ap (λ t. cond t (Some 5) (more 1 (through_dashes bs))) other ∙ ap (more 1) rest.2 ∙ ends_more b bs rest.0,
  )

-- ---- other tags

and_no : (b : Bool) → (b && false) ≡ false
and_no true = refl
and_no false = refl

-- Whether quotes are closed after the bytes, where they are open before them or not.
abbrev pub closed : Bool → List ℕ → Bool
closed true bytes = not (is_even (quotes_in bytes))
closed false bytes = is_even (quotes_in bytes)

not_not : (b : Bool) → not (not b) ≡ b
not_not true = refl
not_not false = refl

-- One byte more.
closed_true : (b : ℕ) (bs : List ℕ) → closed true (b ∷ bs) ≡ closed (not (b == 34)) bs
unfolding is_even
closed_true b bs = by (b == 34) where
  by : (t : Bool) → not (is_even (cond t (b ∷ quotes_in bs) (quotes_in bs))) ≡ closed (not t) bs
  by true = not_not (is_even (quotes_in bs))
  by false = refl

closed_false : (b : ℕ) (bs : List ℕ) → closed false (b ∷ bs) ≡ closed (b == 34) bs
unfolding is_even
closed_false b bs = by (b == 34) where
  by : (t : Bool) → is_even (cond t (b ∷ quotes_in bs) (quotes_in bs)) ≡ closed t bs
  by true = refl
  by false = refl

-- Whether the mark is at the place, and quotes are closed there.
abbrev pub passes : List ℕ → Bool → List ℕ → ℕ → Bool
passes mark q bytes n = stands mark bytes n && closed q (take n bytes)

pub tag_least : (c : ℕ) (cs : List ℕ) (q : Bool) (bytes : List ℕ) → (place : Option ℕ) × IsLeast (passes (c ∷ cs) q bytes) place
    × (through_unquoted (c ∷ cs) q bytes ≡ more (length (c ∷ cs)) place)
unfolding through_unquoted is_even
tag_least c cs q [] = (None, λ n. ap (λ t. t && closed q (take n [])) (nil_stands c cs n), refl)
tag_least c cs true (b ∷ bs) = by (tag_least c cs (not (b == 34)) bs) where
  by : ((place : Option ℕ) × IsLeast (passes (c ∷ cs) (not (b == 34)) bs) place × (through_unquoted (c ∷ cs) (not (b == 34)) bs ≡ more (length (c ∷ cs)) place))
      → (place : Option ℕ) × IsLeast (passes (c ∷ cs) true (b ∷ bs)) place × (through_unquoted (c ∷ cs) true (b ∷ bs) ≡ more (length (c ∷ cs)) place)
  by rest = (
    more 1 rest.0,
    least_later (passes (c ∷ cs) true (b ∷ bs)) rest.0 (and_no (begins (b ∷ bs) (c ∷ cs)))
        (least_same (passes (c ∷ cs) (not (b == 34)) bs) (λ n. passes (c ∷ cs) true (b ∷ bs) (suc n)) rest.0
        (λ n. ap (λ t. stands (c ∷ cs) bs n && t) (sym (closed_true b (take n bs)))) rest.1),
    ap (more 1) rest.2 ∙ more_swap 1 (length (c ∷ cs)) rest.0,
  )
tag_least c cs false (b ∷ bs) = by (begins (b ∷ bs) (c ∷ cs)) refl (tag_least c cs (b == 34) bs) where
  by : (t : Bool) → begins (b ∷ bs) (c ∷ cs) ≡ t
      → ((place : Option ℕ) × IsLeast (passes (c ∷ cs) (b == 34) bs) place × (through_unquoted (c ∷ cs) (b == 34) bs ≡ more (length (c ∷ cs)) place))
      → (place : Option ℕ) × IsLeast (passes (c ∷ cs) false (b ∷ bs)) place × (through_unquoted (c ∷ cs) false (b ∷ bs) ≡ more (length (c ∷ cs)) place)
  by true is rest = (
    Some 0,
    least_here (passes (c ∷ cs) false (b ∷ bs)) (and_from _ _ is refl),
    ap (λ t. cond t (Some (length (c ∷ cs))) (more 1 (through_unquoted (c ∷ cs) (b == 34) bs))) is ∙ ap (λ (l : ℕ). Some l) (omega arith),
  )
  by false is rest = (
    more 1 rest.0,
    least_later (passes (c ∷ cs) false (b ∷ bs)) rest.0 (ap (λ t. t && closed false []) is)
        (least_same (passes (c ∷ cs) (b == 34) bs) (λ n. passes (c ∷ cs) false (b ∷ bs) (suc n)) rest.0
        (λ n. ap (λ t. stands (c ∷ cs) bs n && t) (sym (closed_false b (take n bs)))) rest.1),
    ap (λ t. cond t (Some (length (c ∷ cs))) (more 1 (through_unquoted (c ∷ cs) (b == 34) bs))) is ∙ ap (more 1) rest.2 ∙ more_swap 1 (length (c ∷ cs)) rest.0,
  )

pub tags_end : TagsEnd
tags_end [] bytes low = absurd (omega (arith, low))
tags_end (c ∷ cs) bytes low = tag_least c cs false bytes
