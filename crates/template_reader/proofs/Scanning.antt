-- One byte more of a scan.
use Rattle.std.proofs.Common.{◌≡◌, ℕ, ◌+◌, ◌<◌, ◌≤◌, Bool, true, false, not, List, ◌∷◌, length}
use Rattle.std.proofs.Common.{drop, get_or, Option, Some, None, refl, sym, ap, ◌∙◌, arith, add-one, if◌then◌else◌}
use Rattle.std.proofs.Math.Seq.{drop-cons}
use Rattle.std.proofs.lemmas.List.{drop_all}
use Rattle.std.specs.Prelude.{codes, ◌==◌}
use Rattle.template_reader.specs.Bytes.{begins, more}
use Rattle.template_reader.specs.Cut.{text_length, through, through_dashes, through_unquoted}

-- So many bytes more, and so many again.
pub more-more : (m n : ℕ) (o : Option ℕ) → more m (more n o) ≡ more (m + n) o
more-more m n None = refl
more-more m n (Some k) = ap (λ (x : ℕ). Some x) (omega arith)

-- The first byte.
pub cons_of : (bytes : List ℕ) (i : ℕ) → i < length bytes → drop i bytes ≡ get_or bytes i 0 ∷ drop (i + 1) bytes
cons_of bytes i h = rw add-one (drop-cons bytes i 0 h)

-- A text at a byte ends here or goes on.
text-cons : (b : ℕ) (bs : List ℕ) (t : Bool) → begins (b ∷ bs) (codes "{{") ≡ t → text_length (b ∷ bs) ≡ (if t then 0 else 1 + text_length bs)
unfolding text_length
text-cons b bs t e = ap (λ (t : Bool). if t then 0 else 1 + text_length bs) e

-- Where no tag begins here, the text goes on at the next byte.
pub text-step : (bytes : List ℕ) (i : ℕ) → text_length bytes ≡ i + text_length (drop i bytes) → i < length bytes → begins (drop i bytes) (codes "{{") ≡ false
    → text_length bytes ≡ (i + 1) + text_length (drop (i + 1) bytes)
text-step bytes i so_far h differs =
    let e = cons_of bytes i h in
    let one : text_length (drop i bytes) ≡ 1 + text_length (drop (i + 1) bytes) = ap text_length e
    ∙ text-cons _ _ false (sym (ap (λ x. begins x (codes "{{")) e) ∙ differs) in
    omega (arith, so_far, one)

-- A tag that begins here ends the text.
pub text-stop : (bytes : List ℕ) (i : ℕ) → text_length bytes ≡ i + text_length (drop i bytes) → i < length bytes → begins (drop i bytes) (codes "{{") ≡ true
    → i ≡ text_length bytes
text-stop bytes i so_far h same =
    let e = cons_of bytes i h in
    let one : text_length (drop i bytes) ≡ 0 = ap text_length e ∙ text-cons _ _ true (sym (ap (λ x. begins x (codes "{{")) e) ∙ same) in
    omega (arith, so_far, one)

-- The end of the bytes ends the text.
pub text-end : (bytes : List ℕ) (i : ℕ) → text_length bytes ≡ i + text_length (drop i bytes) → length bytes ≤ i → i ≡ text_length bytes
unfolding text_length
text-end bytes i so_far h =
    let one : text_length (drop i bytes) ≡ 0 = rw (drop_all i bytes h) refl in
    omega (arith, so_far, one)

-- A scan that ends where a test says, and answers how many bytes go to there.
through-cons : (mark : List ℕ) (b : ℕ) (bs : List ℕ) (t : Bool) → begins (b ∷ bs) mark ≡ t
    → through mark (b ∷ bs) ≡ (if t then Some (length mark) else more 1 (through mark bs))
unfolding through
through-cons mark b bs t e = ap (λ (t : Bool). if t then Some (length mark) else more 1 (through mark bs)) e

-- Where the mark is not here, the search goes on at the next byte.
pub through-step : (mark bytes : List ℕ) (i : ℕ) → through mark bytes ≡ more i (through mark (drop i bytes)) → i < length bytes
    → begins (drop i bytes) mark ≡ false
    → through mark bytes ≡ more (i + 1) (through mark (drop (i + 1) bytes))
through-step mark bytes i so_far h differs =
    let e = cons_of bytes i h in
    let one : through mark (drop i bytes) ≡ more 1 (through mark (drop (i + 1) bytes)) = ap (through mark) e
    ∙ through-cons mark _ _ false (sym (ap (λ x. begins x mark) e) ∙ differs) in
    so_far ∙ ap (more i) one ∙ more-more i 1 _

-- The mark that is here is the first one.
pub through-stop : (mark bytes : List ℕ) (i : ℕ) → through mark bytes ≡ more i (through mark (drop i bytes)) → i < length bytes
    → begins (drop i bytes) mark ≡ true
    → Some (i + length mark) ≡ through mark bytes
through-stop mark bytes i so_far h same =
    let e = cons_of bytes i h in
    let one : through mark (drop i bytes) ≡ Some (length mark) = ap (through mark) e ∙ through-cons mark _ _ true (sym (ap (λ x. begins x mark) e) ∙ same) in
    sym (so_far ∙ ap (more i) one)

-- At the end of the bytes there is no mark.
pub through-end : (mark bytes : List ℕ) (i : ℕ) → through mark bytes ≡ more i (through mark (drop i bytes)) → length bytes ≤ i → None ≡ through mark bytes
unfolding through
through-end mark bytes i so_far h = sym (so_far ∙ ap (λ x. more i (through mark x)) (drop_all i bytes h))

-- One of the marks is at a byte, or the search goes on.
dashes-cons : (b : ℕ) (bs : List ℕ) (t u : Bool) → begins (b ∷ bs) (codes "--}}") ≡ t → begins (b ∷ bs) (codes "--~}}") ≡ u
    → through_dashes (b ∷ bs) ≡ (if t then Some 4 else (if u then Some 5 else more 1 (through_dashes bs)))
unfolding through_dashes
dashes-cons b bs t u d e =
    ap (λ (t : Bool). if t then Some 4 else (if begins (b ∷ bs) (codes "--~}}") then Some 5 else more 1 (through_dashes bs))) d
    ∙ ap (λ (u : Bool). if t then Some 4 else (if u then Some 5 else more 1 (through_dashes bs))) e

-- Where neither mark is here, the search goes on at the next byte.
pub dashes-step : (bytes : List ℕ) (i : ℕ) (t u : Bool) → through_dashes bytes ≡ more i (through_dashes (drop i bytes)) → i < length bytes
    → begins (drop i bytes) (codes "--}}") ≡ t → begins (drop i bytes) (codes "--~}}") ≡ u
    → through_dashes bytes ≡ more i (if t then Some 4 else (if u then Some 5 else more 1 (through_dashes (drop (i + 1) bytes))))
dashes-step bytes i t u so_far h d s =
    let e = cons_of bytes i h in
    so_far ∙ ap (more i) (ap through_dashes e ∙ dashes-cons _ _ t u (sym (ap (λ x. begins x (codes "--}}")) e) ∙ d)
    (sym (ap (λ x. begins x (codes "--~}}")) e) ∙ s))

-- At the end of the bytes there is neither mark.
pub dashes-end : (bytes : List ℕ) (i : ℕ) → through_dashes bytes ≡ more i (through_dashes (drop i bytes)) → length bytes ≤ i → None ≡ through_dashes bytes
unfolding through_dashes
dashes-end bytes i so_far h = sym (so_far ∙ ap (λ x. more i (through_dashes x)) (drop_all i bytes h))

-- The mark is at a byte outside quotes, or the search goes on.
unquoted-cons : (mark : List ℕ) (b : ℕ) (bs : List ℕ) (quoted t : Bool) → begins (b ∷ bs) mark ≡ t
    → through_unquoted mark quoted (b ∷ bs) ≡ (if quoted then more 1 (through_unquoted mark (not (b == 34)) bs) else
    (if t then Some (length mark) else more 1 (through_unquoted mark (b == 34) bs)))
unfolding through_unquoted
unquoted-cons mark b bs true t e = refl
unquoted-cons mark b bs false t e = ap (λ (t : Bool). if t then Some (length mark) else more 1 (through_unquoted mark (b == 34) bs)) e

-- One byte more, and whether the next is quoted.
pub unquoted-step : (mark bytes : List ℕ) (i : ℕ) (quoted t : Bool) → through_unquoted mark false bytes ≡ more i (through_unquoted mark quoted (drop i bytes))
    → i < length bytes
    → begins (drop i bytes) mark ≡ t
    → through_unquoted mark false bytes ≡ more i (if quoted then more 1 (through_unquoted mark (not (get_or bytes i 0 == 34)) (drop (i + 1) bytes))
    else (if t then Some (length mark) else more 1 (through_unquoted mark (get_or bytes i 0 == 34) (drop (i + 1) bytes))))
unquoted-step mark bytes i quoted t so_far h d =
    let e = cons_of bytes i h in
    so_far ∙ ap (more i) (ap (through_unquoted mark quoted) e ∙ unquoted-cons mark _ _ quoted t (sym (ap (λ x. begins x mark) e) ∙ d))

-- At the end of the bytes there is no mark outside quotes.
pub unquoted-end : (mark bytes : List ℕ) (i : ℕ) (quoted : Bool) → through_unquoted mark false bytes ≡ more i (through_unquoted mark quoted (drop i bytes))
    → length bytes ≤ i
    → None ≡ through_unquoted mark false bytes
unfolding through_unquoted
unquoted-end mark bytes i quoted so_far h = sym (so_far ∙ ap (λ x. more i (through_unquoted mark quoted x)) (drop_all i bytes h))

-- The mark that is here outside quotes is the first one.
pub unquoted-found : (mark bytes : List ℕ) (i : ℕ) (quoted t : Bool) → through_unquoted mark false bytes ≡ more i (through_unquoted mark quoted (drop i bytes))
    → i < length bytes
    → begins (drop i bytes) mark ≡ t → t ≡ true → quoted ≡ false → Some (i + length mark) ≡ through_unquoted mark false bytes
unquoted-found mark bytes i true t so_far h d e f = absurd (cc)
unquoted-found mark bytes i false false so_far h d e f = absurd (cc)
unquoted-found mark bytes i false true so_far h d e f = sym (unquoted-step mark bytes i false true so_far h d)

-- Where it does not, the search goes on at the next byte, inside quotes or not.
pub unquoted-goes : (mark bytes : List ℕ) (i : ℕ) (quoted t next : Bool)
    → through_unquoted mark false bytes ≡ more i (through_unquoted mark quoted (drop i bytes)) → i < length bytes
    → begins (drop i bytes) mark ≡ t → (t ≡ true → quoted ≡ true) → next ≡ (if quoted then not (get_or bytes i 0 == 34) else get_or bytes i 0 == 34)
    → through_unquoted mark false bytes ≡ more (i + 1) (through_unquoted mark next (drop (i + 1) bytes))
unquoted-goes mark bytes i true t next so_far h d g f =
    unquoted-step mark bytes i true t so_far h d ∙ more-more i 1 _ ∙ ap (λ q. more (i + 1) (through_unquoted mark q (drop (i + 1) bytes))) (sym f)
unquoted-goes mark bytes i false true next so_far h d g f = absurd (let e = g refl in cc)
unquoted-goes mark bytes i false false next so_far h d g f =
    unquoted-step mark bytes i false false so_far h d ∙ more-more i 1 _ ∙ ap (λ q. more (i + 1) (through_unquoted mark q (drop (i + 1) bytes))) (sym f)
