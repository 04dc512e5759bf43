-- The spans of a template rise within its source.
use Rattle.std.proofs.Common.{◌≡◌, ℕ, ◌+◌, ◌-◌, ◌≤◌, Bool, true, false, List, [], ◌∷◌, ◌++◌, length}
use Rattle.std.proofs.Common.{Option, Some, None, refl, sym, ap, ◌∙◌, arith, subst, inl, inr, if◌then◌else◌, append_assoc}
use Rattle.std.specs.Prelude.{nat_lt, ◌⊎◌}
use Rattle.std.proofs.lemmas.List.{length-append, append-nil}
use Rattle.std.proofs.lemmas.Bool.{ltb-true}
use Rattle.template_reader.specs.Cut.{Piece, bytes_of, cut}
use Rattle.template_reader.specs.Cut as piece
use Rattle.template_reader.specs.Says.{tag_of}
use Rattle.template_reader.specs.Spot.{all_bytes, spots}
use Rattle.template_reader.specs.Taken.{Item, text, print, begin, otherwise, finish, form_item, tag_item, piece_item, tag_in, tag_takes_after, items_behind}
use Rattle.template_reader.specs.Reading.{items_in, first_takes}
use Rattle.template_reader.specs.Tree.{Tree, Branch, done, node, block, Head}
use Rattle.template_reader.specs.Tree as trees
use Rattle.template_reader.specs.Nest.{Spells, SpellsOne, ParsesBody, begin_item, finish_item}
use Rattle.template_reader.specs.Spans.{spans_of, spans_in, RiseWithin}
use Rattle.template_reader.specs.declared.span.Span.{Span}
use Rattle.template_reader.specs.declared.tag.Form.{Form}
use Rattle.template_reader.specs.declared.tag.Form.TheVariants as form
use Rattle.template_reader.specs.declared.tag.Tag.{Tag}
use Rattle.template_reader.proofs.Steps.{bytes-cut}
use Rattle.template_reader.proofs.Whole.{items-whole}

-- The spans of items.
abbrev spanned : Item → List Span
spanned (text s) = s ∷ []
spanned (print e) = []
spanned (begin n w) = []
spanned otherwise = []
spanned (finish n) = []

-- The spans of items, in order.
abbrev all_spanned : List Item → List Span
all_spanned [] = []
all_spanned (i ∷ is) = spanned i ++ all_spanned is

-- Those of items one after another are one after another.
spanned-append : (a b : List Item) → all_spanned (a ++ b) ≡ all_spanned a ++ all_spanned b
spanned-append [] b = refl
spanned-append (i ∷ a) b = ap (λ l. spanned i ++ l) (spanned-append a b) ∙ sym (append_assoc (spanned i) (all_spanned a) (all_spanned b))

-- A begin has no span.
spanned-begin : (h : Head) → spanned (begin_item h) ≡ []
spanned-begin (trees.test u w) = refl
spanned-begin (trees.each w) = refl

-- An end has none.
spanned-finish : (h : Head) → spanned (finish_item h) ≡ []
spanned-finish (trees.test u w) = refl
spanned-finish (trees.each w) = refl

-- The spans of an other part are those of its items.
other : (h : Head) (o : Tree) (two : List Item) → ((more : List Item) → Spells o more → spans_of o ≡ all_spanned more)
    → ((two ≡ []) × (o ≡ done)) ⊎ ((more : List Item) × (two ≡ otherwise ∷ more) × Spells o more)
    → spans_of o ≡ all_spanned (two ++ (finish_item h ∷ []))
other h o two again (inl p) = ap spans_of p.1 ∙ sym (ap (λ l. all_spanned (l ++ (finish_item h ∷ []))) p.0 ∙ ap (λ l. l ++ []) (spanned-finish h))
other h o two again (inr p) =
    again p.0 p.2
    ∙ sym (ap (λ l. all_spanned (l ++ (finish_item h ∷ []))) p.1 ∙ spanned-append p.0 (finish_item h ∷ [])
    ∙ ap (λ l. all_spanned p.0 ++ (l ++ [])) (spanned-finish h) ∙ append-nil (all_spanned p.0))

-- A tree has the spans of the items that spell it.
mutual
  spans-spelled : (t : Tree) (is : List Item) → Spells t is → spans_of t ≡ all_spanned is
  spans-spelled done is s = ap all_spanned (sym s)
  spans-spelled (node b t) is s =
      ap (λ l. l ++ spans_of t) (spans-one b s.0 s.3) ∙ ap (λ l. all_spanned s.0 ++ l) (spans-spelled t s.1 s.4)
      ∙ sym (ap all_spanned s.2 ∙ spanned-append s.0 s.1)

  spans-one : (b : Branch) (is : List Item) → SpellsOne b is → spans_in b ≡ all_spanned is
  spans-one (trees.text x) is s = ap all_spanned (sym s)
  spans-one (trees.print e) is s = ap all_spanned (sym s)
  spans-one (block h f o) is s =
      ap (λ l. l ++ spans_of o) (spans-spelled f s.0 s.3) ∙ ap (λ l. all_spanned s.0 ++ l) (other h o s.1 (λ more r. spans-spelled o more r) s.4)
      ∙ sym (ap all_spanned s.2 ∙ ap (λ l. l ++ all_spanned (s.0 ++ s.1 ++ (finish_item h ∷ []))) (spanned-begin h)
      ∙ ap all_spanned (append_assoc s.0 s.1 (finish_item h ∷ [])) ∙ spanned-append s.0 (s.1 ++ (finish_item h ∷ [])))

-- Rising spans from an earlier place on, and to the same place.
pub rise-lower : (low next high : ℕ) (ss : List Span) → low ≤ next → RiseWithin next ss high → RiseWithin low ss high
rise-lower low next high [] h r = omega arith
rise-lower low next high (s ∷ ss) h r = (omega (arith, r.0), r.1, r.2)

-- A text that is left keeps the spans rising.
rise-text : (b : Bool) (base low start end next high : ℕ) (is : List Item) → nat_lt start end ≡ b → low ≤ base + start → base + end ≤ next → low ≤ next
    → RiseWithin next (all_spanned is) high
    → RiseWithin low (all_spanned ((if b then text (record { start = base + start; end = base + end }) ∷ [] else []) ++ is)) high
rise-text true base low start end next high is e f g h r = (
  f,
  let l = ltb-true start end e in
      omega arith,
  rise-lower (base + end) next high (all_spanned is) g r,
)
rise-text false base low start end next high is e f g h r = rise-lower low next high (all_spanned is) h r

-- What a tag says has no span.
form-spanned : (f : Form) (is : List Item) → all_spanned (form_item f ++ is) ≡ all_spanned is
form-spanned form.Comment is = refl
form-spanned (form.Print e) is = refl
form-spanned (form.Begin n w) is = refl
form-spanned form.Otherwise is = refl
form-spanned (form.Finish n) is = refl

-- A tag has none.
tag-spanned : (o : Option Tag) (is : List Item) → all_spanned (tag_item o ++ is) ≡ all_spanned is
tag-spanned None is = refl
tag-spanned (Some t) is = form-spanned t.form is

-- A piece keeps the spans rising.
rise-piece : (base place front back high : ℕ) (p : Piece) (is : List Item) → RiseWithin (base + (place + length (bytes_of p))) (all_spanned is) high
    → RiseWithin (base + place) (all_spanned (piece_item base place front back p ++ is)) high
rise-piece base place front back high (piece.text bytes) is r =
    rise-text (nat_lt (place + front) (place + length bytes - back)) base (base + place) (place + front) (place + length bytes - back)
    (base + (place + length bytes)) high is refl (omega arith) (omega arith) (omega arith) r
rise-piece base place front back high (piece.tag bytes) is r =
    let P : List Span → Type 0 = λ ss. RiseWithin (base + place) ss high in
    subst P (sym (tag-spanned (tag_of bytes) is)) (rise-lower (base + place) (base + (place + length bytes)) high (all_spanned is) (omega arith) r)
rise-piece base place front back high (piece.unclosed bytes) is r =
    rise-lower (base + place) (base + (place + length bytes)) high (all_spanned is) (omega arith) r

-- The spans of what pieces say rise.
rise-items : (base : ℕ) (before : List ℕ) (front high : ℕ) (ps : List Piece) → base + length before + length (all_bytes ps) ≡ high
    → RiseWithin (base + length before) (all_spanned (items_in base before front ps)) high
unfolding items_in
rise-items base before front high [] e = omega arith
rise-items base before front high (p ∷ ps) e =
    let next = tag_takes_after (tag_in p) before (all_bytes ps) in
    let size = length-append before (bytes_of p) in
    let again = rise-items base (before ++ bytes_of p) next high ps (omega (arith, e, size, length-append (bytes_of p) (all_bytes ps))) in
    let P : ℕ → Type 0 = λ n. RiseWithin (base + n) (all_spanned (items_in base (before ++ bytes_of p) next ps)) high in
    rise-piece base (length before) front (first_takes (before ++ bytes_of p) ps) high p (items_in base (before ++ bytes_of p) next ps) (subst P size again)

-- The spans of a body's tree.
pub spans_rise : (base : ℕ) (body : List ℕ) (t : Tree) → ParsesBody base body t → RiseWithin base (spans_of t) (base + length body)
spans_rise base body t p =
    let is = items_behind base 0 (spots body) in
    let same : spans_of t ≡ all_spanned (items_in base [] 0 (cut body)) = spans-spelled t is p.nests ∙ ap all_spanned (items-whole base body) in
    let P : List Span → Type 0 = λ ss. RiseWithin base ss (base + length body) in
    let low : base + 0 ≡ base = omega arith in
    let Q : ℕ → Type 0 = λ n. RiseWithin n (all_spanned (items_in base [] 0 (cut body))) (base + length body) in
    subst P (sym same) (subst Q low (rise-items base [] 0 (base + length body) (cut body) (omega (arith, ap length (bytes-cut body)))))
