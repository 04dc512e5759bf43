-- The next text and tag, in the words of the contracts.
use Rattle.std.proofs.Common.{◌≡◌, ℕ, zero, suc, ◌+◌, ◌-◌, ◌<◌, ◌≤◌, Bool, true, false, List, [], ◌∷◌, ◌++◌}
use Rattle.std.proofs.Common.{length, take, drop, Option, Some, None, refl, sym, ap, ◌∙◌, arith, zero-add, add-zero, subst, true≢false}
use Rattle.std.proofs.Math.Bool.{and-false}
use Rattle.std.proofs.lemmas.Bool.Decides.{nat_tests}
use Rattle.std.specs.Prelude.{codes, nat_lt, ◌&&◌, ◌==◌}
use Rattle.std.specs.Option.{option_or}
use Rattle.std.proofs.lemmas.List.{drop_all, length-drop, append-nil, length-take-le, drop-drop}
use Rattle.template_reader.specs.Bytes.{begins, ends}
use Rattle.template_reader.specs.Cut.{text_length, tag_length, cut}
use Rattle.template_reader.specs.Spot.{Block, after_tag}
use Rattle.template_reader.specs.Fault.{piece_fault, tag_fault, at}
use Rattle.template_reader.specs.Taken.{Item, text_item, tag_item, tag_takes_before, tag_takes_after}
use Rattle.template_reader.specs.Says.{tag_of}
use Rattle.template_reader.specs.Reading.{fault_in, items_in, first_takes, fault_at, IsLast, IsNext, IsWrong}
use Rattle.template_reader.specs.declared.tag.Tag.{Tag}
use Rattle.template_reader.specs.declared.template_error.TemplateKind.TheVariants.{Escape, Unclosed, BadTag}
use Rattle.template_reader.proofs.Steps.{cut-text, cut-tag, cut-unclosed, cut-none, bytes-cut, text-reaches, text-none, text-some, begins-two}

-- The bytes up to a later place.
take-more : (n m : ℕ) (bytes : List ℕ) → take n bytes ++ take m (drop n bytes) ≡ take (n + m) bytes
take-more zero m bytes = ap (λ k. take k bytes) (sym (zero-add m))
take-more (suc n) zero [] = rw add-zero refl
take-more (suc n) (suc m) [] = let e : suc n + suc m ≡ suc (n + suc m) = omega arith in rw e refl
take-more (suc n) m (b ∷ bs) = let e : suc n + m ≡ suc (n + m) = omega arith in rw e (ap (λ (l : List ℕ). b ∷ l) (take-more n m bs))

-- No tag is after the text, or the text ends with no backslash.
abbrev IsPlain : List ℕ → Type 0
IsPlain rest = (begins (drop (text_length rest) rest) (codes "{{") && ends (take (text_length rest) rest) (92 ∷ [])) ≡ false

-- An empty text changes no fault.
nowhere : (place : ℕ) (blocks : List Block) (rest : List ℕ) → text_length rest ≡ 0 → fault_in place blocks (cut rest) ≡ fault_in (place + text_length rest)
    blocks (cut (drop (text_length rest) rest))
nowhere place blocks rest e = sym (ap (λ k. fault_in (place + k) blocks (cut (drop k rest))) e ∙ ap (λ k. fault_in k blocks (cut rest)) (add-zero place))

-- No bytes have no text before a tag.
text-empty : (rest : List ℕ) → length rest ≡ 0 → text_length rest ≡ 0
unfolding text_length
text-empty [] h = refl
text-empty (b ∷ bs) h = absurd (omega arith)

-- A text with no escape has no fault.
fault-text : (t : Bool) (place : ℕ) (blocks : List Block) (rest : List ℕ) → begins rest (codes "{{") ≡ t → IsPlain rest
    → fault_in place blocks (cut rest) ≡ fault_in (place + text_length rest) blocks (cut (drop (text_length rest) rest))
unfolding fault_in piece_fault
fault-text true place blocks rest e plain = nowhere place blocks rest (text-none rest e)
fault-text false place blocks [] e plain = nowhere place blocks [] (text-empty [] refl)
fault-text false place blocks (b ∷ bs) e plain =
    let rest = b ∷ bs in
    let n = text_length rest in
    let size : length (take n rest) ≡ n = length-take-le n rest (text-reaches rest).0 in
    ap (fault_in place blocks) (cut-text rest (omega arith) e) ∙ rw (bytes-cut, plain, size) refl

-- A text that ends with a backslash before a tag is a fault there.
fault-escape : (place : ℕ) (blocks : List Block) (rest : List ℕ) → 0 < length rest → begins rest (codes "{{") ≡ false
    → begins (drop (text_length rest) rest) (codes "{{") ≡ true → ends (take (text_length rest) rest) (92 ∷ []) ≡ true
    → fault_in place blocks (cut rest) ≡ Some (record { kind = Escape; place = place + (text_length rest - 1) })
unfolding fault_in piece_fault
fault-escape place blocks rest h e f g =
    let n = text_length rest in
    let size : length (take n rest) ≡ n = length-take-le n rest (text-reaches rest).0 in
    ap (fault_in place blocks) (cut-text rest h e) ∙ rw (bytes-cut, f, g, size) refl

-- The fault of a tag, or else the first one after it.
fault-tag : (place : ℕ) (blocks : List Block) (rest : List ℕ) (n : ℕ) → begins rest (codes "{{") ≡ true → tag_length rest ≡ Some n → n ≤ length rest
    → fault_in place blocks (cut rest) ≡ option_or (at place (tag_fault blocks (tag_of (take n rest))))
    (fault_in (place + n) (after_tag place blocks (tag_of (take n rest))) (cut (drop n rest)))
unfolding fault_in piece_fault
fault-tag place blocks rest n e f h =
    let size : length (take n rest) ≡ n = length-take-le n rest h in
    ap (fault_in place blocks) (cut-tag rest n e f h) ∙ rw size refl

-- A tag without an end is a fault.
fault-unclosed : (place : ℕ) (blocks : List Block) (rest : List ℕ) → begins rest (codes "{{") ≡ true → tag_length rest ≡ None
    → fault_in place blocks (cut rest) ≡ Some (record { kind = Unclosed; place = place })
unfolding fault_in piece_fault
fault-unclosed place blocks rest e f = ap (fault_in place blocks) (cut-unclosed rest e f)

-- A number that is no less fails the test.
nat_lt-false : (m n : ℕ) → n ≤ m → nat_lt m n ≡ false
nat_lt-false m n h = grind (arith, nat_tests)

-- A text without a byte left says nothing.
none-left : (base : ℕ) (m n : ℕ) → n ≤ m → text_item base m n ≡ []
none-left base m n h = rw (nat_lt-false m n h) refl

-- What a tag says, and then what is after it.
items-tag : (base : ℕ) (before : List ℕ) (front : ℕ) (rest : List ℕ) (n : ℕ) → begins rest (codes "{{") ≡ true → tag_length rest ≡ Some n → n ≤ length rest
    → items_in base before front (cut rest) ≡ tag_item (tag_of (take n rest))
    ++ items_in base (before ++ take n rest) (tag_takes_after (tag_of (take n rest)) before (drop n rest)) (cut (drop n rest))
unfolding items_in
items-tag base before front rest n e f h = ap (items_in base before front) (cut-tag rest n e f h) ∙ rw bytes-cut refl

-- What a tag takes of the bytes before it.
first_takes-tag : (before : List ℕ) (rest : List ℕ) (n : ℕ) → begins rest (codes "{{") ≡ true → tag_length rest ≡ Some n → n ≤ length rest
    → first_takes before (cut rest) ≡ tag_takes_before (tag_of (take n rest)) before (drop n rest)
first_takes-tag before rest n e f h = ap (first_takes before) (cut-tag rest n e f h) ∙ ap (tag_takes_before (tag_of (take n rest)) before)
    (bytes-cut (drop n rest))

-- A text, maybe an empty one, and then a tag.
items-text : (base : ℕ) (t : Bool) (before : List ℕ) (front : ℕ) (rest : List ℕ) (k : ℕ) → begins rest (codes "{{") ≡ t
    → begins (drop (text_length rest) rest) (codes "{{") ≡ true → tag_length (drop (text_length rest) rest) ≡ Some k → k ≤ length (drop (text_length rest) rest)
    → items_in base before front (cut rest)
    ≡ text_item base (length before + front) (length before + text_length rest - first_takes (before ++ take (text_length rest) rest)
    (cut (drop (text_length rest) rest)))
    ++ items_in base (before ++ take (text_length rest) rest) 0 (cut (drop (text_length rest) rest))
unfolding items_in tag_takes_after
items-text base true before front rest k e f g h =
    let z = text-none rest e in
    let f' : begins rest (codes "{{") ≡ true = e in
    let P : ℕ → Type 0 = λ n. tag_length (drop n rest) ≡ Some k in
    let Q : ℕ → Type 0 = λ n. k ≤ length (drop n rest) in
    let g' : tag_length rest ≡ Some k = subst P z g in
    let h' : k ≤ length rest = subst Q z h in
    let same : items_in base before front (cut rest) ≡ items_in base (before ++ take (text_length rest) rest) 0 (cut (drop (text_length rest) rest)) =
    items-tag base before front rest k e g' h' ∙ sym (items-tag base before 0 rest k e g' h')
    ∙ ap (λ b. items_in base b 0 (cut rest)) (sym (append-nil before))
    ∙ sym (ap (λ n. items_in base (before ++ take n rest) 0 (cut (drop n rest))) z) in
    same ∙ ap (λ (l : List Item). l ++ items_in base (before ++ take (text_length rest) rest) 0 (cut (drop (text_length rest) rest)))
    (sym (none-left base _ _ (omega (arith, z))))
items-text base false before front [] k e f g h = absurd (true≢false (sym f ∙ ap (λ l. begins l (codes "{{")) (drop_all (text_length []) [] (omega arith))))
items-text base false before front (b ∷ bs) k e f g h =
    let rest = b ∷ bs in
    let n = text_length rest in
    let size : length (take n rest) ≡ n = length-take-le n rest (text-reaches rest).0 in
    ap (items_in base before front) (cut-text rest (omega arith) e) ∙ rw size refl

-- A text, maybe an empty one, and then the end.
items-last : (base : ℕ) (t : Bool) (before : List ℕ) (front : ℕ) (rest : List ℕ) → begins rest (codes "{{") ≡ t → text_length rest ≡ length rest
    → items_in base before front (cut rest) ≡ text_item base (length before + front) (length before + length rest)
unfolding items_in tag_takes_after
items-last base true before front rest e f = absurd (omega (arith, text-none rest e, begins-two rest e))
items-last base false before front [] e f = ap (items_in base before front) cut-none ∙ sym (none-left base _ _ (omega arith))
items-last base false before front (b ∷ bs) e f =
    let rest = b ∷ bs in
    let n = text_length rest in
    let size : length (take n rest) ≡ n = length-take-le n rest (text-reaches rest).0 in
    let zero_less : length before + length rest - 0 ≡ length before + length rest = omega arith in
    let over : drop n rest ≡ [] = drop_all n rest (omega arith) in
    ap (items_in base before front) (cut-text rest (omega arith) e) ∙ rw (over, cut-none, size, f) (append-nil _)
    ∙ ap (λ e. text_item base (length before + front) e) zero_less

-- What the code knows where it has found the text.
pub record Cuts (body : List ℕ) (from : ℕ) (rest words behind : List ℕ) (start : ℕ) : Type 0 where
  pub inside : from ≤ length body
  pub rest_is : rest ≡ drop from body
  pub text_is : words ≡ take (text_length rest) rest
  pub behind_is : behind ≡ drop (text_length rest) rest
  pub start_is : start ≡ from + length words

-- Between the two places is a text, maybe an empty one, and no `{{`.
pub record Found (body : List ℕ) (from start : ℕ) : Type 0 where
  pub size : start ≡ from + text_length (drop from body)
  pub within : start ≤ length body
  pub behind_is : drop (text_length (drop from body)) (drop from body) ≡ drop start body
  pub before_is : take from body ++ take (text_length (drop from body)) (drop from body) ≡ take start body
  pub length_from : length (take from body) ≡ from

-- The text that was cut off is that text.
pub found : (body : List ℕ) (from : ℕ) (rest words behind : List ℕ) (start : ℕ) → Cuts body from rest words behind start → Found body from start
found body from rest words behind start c =
    let n = text_length (drop from body) in
    let r = text-reaches (drop from body) in
    let long : length (drop from body) ≡ length body - from = length-drop from body in
    let text_is : words ≡ take n (drop from body) = c.text_is ∙ ap (λ l. take (text_length l) l) c.rest_is in
    let size : start ≡ from + n = c.start_is ∙ ap (λ k. from + k) (ap length text_is ∙ length-take-le n (drop from body) r.0) in
    record {
      size = size;
      within = omega (arith, size, r.0, long, c.inside);
      behind_is = drop-drop n from body ∙ ap (λ k. drop k body) (sym size);
      before_is = take-more from n body ∙ ap (λ k. take k body) (sym size);
      length_from = length-take-le from body c.inside;
    }

-- A tag begins where the text ends, if that is before the end of the body.
pub tag-stands : (body : List ℕ) (from start : ℕ) → Found body from start → start < length body → begins (drop start body) (codes "{{") ≡ true
tag-stands body from start f h =
    let r = text-reaches (drop from body) in
    let over : length (drop (text_length (drop from body)) (drop from body)) ≡ length (drop start body) = ap length f.behind_is in
    sym (ap (λ l. begins l (codes "{{")) f.behind_is) ∙ r.1 (omega (
      arith,
      over,
      length-drop start body,
      length-drop (text_length (drop from body))
          (drop from body),
    ))

-- Where the text goes to the end of the body, it is the last.
pub is_last : (body : List ℕ) (from start : ℕ) → Found body from start → start ≡ length body → from ≤ length body → IsLast body from
unfolding fault_in
is_last body from start f e inside =
    let rest = drop from body in
    let none : drop start body ≡ [] = drop_all start body (omega arith) in
    let over : drop (text_length rest) rest ≡ [] = f.behind_is ∙ none in
    let whole : text_length rest ≡ length rest = omega (arith, f.size, length-drop from body) in
    let plain : IsPlain rest = ap (λ l. begins l (codes "{{") && ends (take (text_length rest) rest) (92 ∷ [])) over in
    record {
      fault = λ blocks. fault-text (begins rest (codes "{{")) from blocks rest refl plain ∙ ap (λ l. fault_in (from + text_length rest) blocks (cut l)) over
          ∙ ap (fault_in (from + text_length rest) blocks) cut-none;
      items = λ base front. items-last base (begins rest (codes "{{")) (take from body) front rest refl whole
          ∙ ap (λ k. text_item base (k + front) (k + length rest)) f.length_from
          ∙ ap (λ k. text_item base (from + front) k) (omega (arith, length-drop from body));
    }

-- A text without a backslash at its end has no fault.
to_tag : (body : List ℕ) (from start : ℕ) → Found body from start → ends (take (text_length (drop from body)) (drop from body)) (92 ∷ []) ≡ false
    → (blocks : List Block) → fault_at body from blocks ≡ fault_at body start blocks
to_tag body from start f plain blocks =
    let rest = drop from body in
    let is_plain : IsPlain rest = rw (plain) (and-false (begins (drop (text_length rest) rest) (codes "{{"))) in
    fault-text (begins rest (codes "{{")) from blocks rest refl is_plain
    ∙ ap (λ l. fault_in (from + text_length rest) blocks (cut l)) f.behind_is ∙ ap (λ k. fault_in k blocks (cut (drop start body))) (sym f.size)

-- A tag after the text is the next one.
pub is_next : (body : List ℕ) (from start n stop : ℕ) (t : Tag) → Found body from start → start < length body
    → ends (take (text_length (drop from body)) (drop from body)) (92 ∷ []) ≡ false
    → tag_length (drop start body) ≡ Some n → 2 ≤ n → n ≤ length (drop start body) → stop ≡ start + n → Some t ≡ tag_of (take n (drop start body))
    → IsNext body from start stop t
is_next body from start n stop t f h plain size two fits stop_is said =
    let rest = drop from body in
    let tail = drop start body in
    let stands = tag-stands body from start f h in
    let after : drop n tail ≡ drop stop body = drop-drop n start body ∙ ap (λ k. drop k body) (sym stop_is) in
    let before : take start body ++ take n tail ≡ take stop body = take-more start n body ∙ ap (λ k. take k body) (sym stop_is) in
    let stands' : begins (drop (text_length rest) rest) (codes "{{") ≡ true = ap (λ l. begins l (codes "{{")) f.behind_is ∙ stands in
    let size' : tag_length (drop (text_length rest) rest) ≡ Some n = ap tag_length f.behind_is ∙ size in
    let fits' : n ≤ length (drop (text_length rest) rest) = omega (arith, ap length f.behind_is) in
    let S = take start body in
    let g = take n tail in
    let G : ℕ → ℕ → List ℕ → List ℕ → ℕ → List Item = λ base a b l front. text_item base (a + front) (a + text_length rest - first_takes b (cut l))
    ++ items_in base b 0 (cut l) in
    let H : ℕ → Option Tag → List ℕ → List ℕ → ℕ → List Item = λ base o b l front. text_item base (from + front) (start - tag_takes_before o S l)
    ++ (tag_item o ++ items_in base b (tag_takes_after o S l) (cut l)) in
    record {
      ordered = omega (arith, f.size);
      some = omega arith;
      inside = omega (arith, length-drop start body);
      fault = λ blocks.
          to_tag body from start f plain blocks
          ∙ fault-tag start blocks tail n stands size fits
          ∙ ap (λ l. option_or (at start (tag_fault blocks (tag_of (take n tail))))
          (fault_in (start + n) (after_tag start blocks (tag_of (take n tail))) (cut l))) after
          ∙ ap (λ k. option_or (at start (tag_fault blocks (tag_of (take n tail))))
          (fault_in k (after_tag start blocks (tag_of (take n tail))) (cut (drop stop body)))) (sym stop_is)
          ∙ ap (λ o. option_or (at start (tag_fault blocks o)) (fault_in stop (after_tag start blocks o) (cut (drop stop body)))) (sym said);
      items = λ base front.
          items-text base (begins rest (codes "{{")) (take from body) front rest n refl stands' size' fits'
          ∙ ap (λ a. G base a (take from body ++ take (text_length rest) rest) (drop (text_length rest) rest) front) f.length_from
          ∙ ap (λ b. G base from b (drop (text_length rest) rest) front) f.before_is
          ∙ ap (λ l. G base from S l front) f.behind_is
          ∙ ap (λ k. text_item base (from + front) (k - first_takes S (cut tail)) ++ items_in base S 0 (cut tail)) (sym f.size)
          ∙ ap (λ k. text_item base (from + front) (start - k) ++ items_in base S 0 (cut tail)) (first_takes-tag S tail n stands size fits)
          ∙ ap (λ is. text_item base (from + front) (start - tag_takes_before (tag_of g) S (drop n tail)) ++ is) (items-tag base S 0 tail n stands size fits)
          ∙ ap (λ b. H base (tag_of g) b (drop n tail) front) before
          ∙ ap (λ l. H base (tag_of g) (take stop body) l front) after
          ∙ ap (λ o. H base o (take stop body) (drop stop body) front) (sym said);
    }

-- An empty text ends with no backslash.
no-escape : (rest : List ℕ) → text_length rest ≡ 0 → ends (take (text_length rest) rest) (92 ∷ []) ≡ false
no-escape rest e = ap (λ k. ends (take k rest) (92 ∷ [])) e

-- A backslash at the end of a text is the fault, at its place.
escape-at : (t : Bool) (body : List ℕ) (from start : ℕ) → begins (drop from body) (codes "{{") ≡ t → Found body from start → start < length body
    → ends (take (text_length (drop from body)) (drop from body)) (92 ∷ []) ≡ true → (blocks : List Block)
    → fault_at body from blocks ≡ Some (record { kind = Escape; place = start - 1 })
escape-at true body from start e f h escaped blocks = absurd (true≢false (sym escaped ∙ no-escape (drop from body) (text-none (drop from body) e)))
escape-at false body from start e f h escaped blocks =
    let rest = drop from body in
    let stands = ap (λ l. begins l (codes "{{")) f.behind_is ∙ tag-stands body from start f h in
    let some : 0 < text_length rest = text-some rest (omega (arith, f.size, length-drop from body, (text-reaches rest).0)) e in
    fault-escape from blocks rest (omega (arith, (text-reaches rest).0)) e stands escaped
    ∙ ap (λ k. Some (record { kind = Escape; place = k })) (omega (arith, f.size))

-- A backslash at the end of the text is the fault, whatever blocks are open.
pub is_escape : (body : List ℕ) (from start : ℕ) → Found body from start → start < length body
    → ends (take (text_length (drop from body)) (drop from body)) (92 ∷ []) ≡ true → IsWrong body from (record { kind = Escape; place = start - 1 })
is_escape body from start f h escaped = record { fault = escape-at (begins (drop from body) (codes "{{")) body from start refl f h escaped }

-- A tag without an end is the fault.
pub is_unclosed : (body : List ℕ) (from start : ℕ) → Found body from start → start < length body
    → ends (take (text_length (drop from body)) (drop from body)) (92 ∷ []) ≡ false → tag_length (drop start body) ≡ None
    → IsWrong body from (record { kind = Unclosed; place = start })
is_unclosed body from start f h plain size =
    record { fault = λ blocks. to_tag body from start f plain blocks ∙ fault-unclosed start blocks (drop start body) (tag-stands body from start f h) size }

-- A tag that says nothing is the fault.
pub is_bad : (body : List ℕ) (from start n : ℕ) → Found body from start → start < length body
    → ends (take (text_length (drop from body)) (drop from body)) (92 ∷ []) ≡ false → tag_length (drop start body) ≡ Some n → n ≤ length (drop start body)
    → None ≡ tag_of (take n (drop start body)) → IsWrong body from (record { kind = BadTag; place = start })
is_bad body from start n f h plain size fits said =
    let tail = drop start body in
    record {
      fault = λ blocks. to_tag body from start f plain blocks ∙ fault-tag start blocks tail n (tag-stands body from start f h) size fits
          ∙ ap (λ o. option_or (at start (tag_fault blocks o)) (fault_in (start + n) (after_tag start blocks o) (cut (drop n tail)))) (sym said);
    }

-- What the calls of next_tag say.
pub record Call (body : List ℕ) (from : ℕ) (words behind : List ℕ) : Type 0 where
  pub found : Found body from (from + length words)
  pub behind_is : behind ≡ drop (from + length words) body
  pub words_are : words ≡ take (text_length (drop from body)) (drop from body)

-- The bytes of the call are the text and what is after it.
pub called : (body : List ℕ) (from : ℕ) (rest words behind : List ℕ) (k : ℕ) → from ≤ length body → rest ≡ drop from body → k ≡ text_length rest
    → words ≡ take k rest → behind ≡ drop k rest → Call body from words behind
called body from rest words behind k h rest_is k_is words_is behind_is =
    let k' : k ≡ text_length (drop from body) = k_is ∙ ap text_length rest_is in
    let words_are : words ≡ take (text_length (drop from body)) (drop from body) = words_is ∙ ap (λ l. take k l) rest_is
    ∙ ap (λ n. take n (drop from body)) k' in
    let f = found body from rest words behind (from + length words) (record {
      inside = h;
      rest_is = rest_is;
      text_is = words_is
          ∙ ap (λ n. take n rest) k_is;
      behind_is = behind_is ∙ ap (λ n. drop n rest) k_is;
      start_is = refl;
    }) in
    record {
      found = f;
      behind_is = behind_is ∙ ap (λ l. drop k l) rest_is ∙ ap (λ n. drop n (drop from body)) k' ∙ f.behind_is;
      words_are = words_are;
    }

-- Where some byte is after the text, the text ends before the body does.
pub before_end : (body : List ℕ) (from : ℕ) (words behind : List ℕ) (b : Bool) → Call body from words behind → b ≡ (length behind == 0) → b ≡ false
    → from + length words < length body
before_end body from words behind b c e f =
    let some : 0 < length behind = some_behind behind b e f in
    omega (arith, some, ap length c.behind_is, length-drop (from + length words) body)
  where
    some_behind : (behind : List ℕ) (b : Bool) → b ≡ (length behind == 0) → b ≡ false → 0 < length behind
    some_behind [] b e f = absurd (true≢false (sym e ∙ f))
    some_behind (x ∷ xs) b e f = omega arith

-- The test for no byte after the text says that there is none.
no_behind : (behind : List ℕ) (b : Bool) → b ≡ (length behind == 0) → b ≡ true → length behind ≡ 0
no_behind behind b e f = let g : (length behind == 0) ≡ true = sym e ∙ f in grind (arith, nat_tests)

-- Where no byte is after the text, it is the last.
pub at_end : (body : List ℕ) (from : ℕ) (words behind : List ℕ) (b : Bool) → Call body from words behind → b ≡ (length behind == 0) → b ≡ true
    → from ≤ length body → IsLast body from
at_end body from words behind b c e f h =
    is_last body from (from + length words) c.found (omega (
      arith,
      no_behind behind b e f,
      ap length c.behind_is,
      length-drop (from + length words) body,
      c.found.within,
    )) h

-- The text that was cut off ends with a backslash exactly where the bytes before the tag do.
pub ends-words : (body : List ℕ) (from : ℕ) (words behind : List ℕ) (b t : Bool) → Call body from words behind → b ≡ ends words (92 ∷ []) → b ≡ t
    → ends (take (text_length (drop from body)) (drop from body)) (92 ∷ []) ≡ t
ends-words body from words behind b t c e f = sym (ap (λ l. ends l (92 ∷ [])) c.words_are) ∙ sym e ∙ f

-- What begins with `{{` has two bytes at least.
pub length-behind : (body : List ℕ) (from : ℕ) (words behind : List ℕ) → Call body from words behind → from + length words < length body → 2 ≤ length behind
length-behind body from words behind c h =
    let stands = tag-stands body from (from + length words) c.found h in
    begins-two behind (ap (λ l. begins l (codes "{{")) c.behind_is ∙ stands)
