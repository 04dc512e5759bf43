-- A source without fault has a tree.
use Rattle.std.proofs.Common.{◌≡◌, ℕ, ◌+◌, ◌-◌, Bool, true, false, List, [], ◌∷◌, ◌++◌, length}
use Rattle.std.proofs.Common.{drop, Option, Some, None, refl, sym, ap, ◌∙◌, append_assoc, subst, inl, inr, if◌then◌else◌}
use Rattle.std.specs.Prelude.{nat_lt, ◌⊎◌}
use Rattle.std.specs.Option.{option_or, option_map}
use Rattle.std.proofs.lemmas.List.{append-nil}
use Rattle.template_reader.specs.Cut.{Piece, bytes_of, cut}
use Rattle.template_reader.specs.Cut as piece
use Rattle.template_reader.specs.Says.{tag_of}
use Rattle.template_reader.specs.Spot.{Block, after_form, after_tag, after_piece, all_bytes}
use Rattle.template_reader.specs.Fault.{same_name, form_fault, tag_fault, at, piece_fault, body_fault}
use Rattle.template_reader.specs.Taken.{Item, text_item, form_item, tag_item, piece_item, tag_in, tag_takes_after, items_behind}
use Rattle.template_reader.specs.Taken as item
use Rattle.template_reader.specs.Tree.{Tree, Branch, done, node, Head}
use Rattle.template_reader.specs.Tree as trees
use Rattle.template_reader.specs.Nest.{Spells, SpellsOne, ParsesBody}
use Rattle.template_reader.specs.Front.{body_start}
use Rattle.template_reader.specs.Parses.{Parses, moved, fault_from, fault}
use Rattle.template_reader.specs.Reading.{fault_in, items_in, first_takes, head, opened}
use Rattle.template_reader.specs.declared.tag.Form.{Form}
use Rattle.template_reader.specs.declared.tag.Form.TheVariants as form
use Rattle.template_reader.specs.declared.tag.Tag.{Tag}
use Rattle.template_reader.specs.declared.tag.Name.{Name}
use Rattle.template_reader.specs.declared.walk.Walk.{Walk}
use Rattle.template_reader.specs.declared.template_error.TemplateError.{TemplateError}
use Rattle.template_reader.specs.declared.template_error.TemplateKind.{TemplateKind}
use Rattle.template_reader.proofs.BlockParts.{same_name-eq, spells_block}
use Rattle.template_reader.specs.contracts.template_error.TemplateError as error
use Rattle.std.specs.Coded.{Coded-set, coded_option}
use mathlib.Core.Logic.{∥∥₁_elim}
use Rattle.template_reader.proofs.Whole.{fault-whole, items-whole}
use Rattle.template_reader.proofs.Unique.{tree-set}
use Rattle.template_reader.proofs.Sources.{faultless, one_parse}

-- The end of a block, and then what P says.
abbrev After : Name → (List Item → Type 0) → List Item → Type 0
After n P is = (more : List Item) × (is ≡ item.finish n ∷ more) × P more

-- An else, nodes and the end of a block, and then what P says.
abbrev Other : Name → (List Item → Type 0) → List Item → Type 0
Other n P is = (more : List Item) × (is ≡ item.otherwise ∷ more) × (o : Tree) × (two : List Item) × (rest : List Item) × (more ≡ two ++ rest) × Spells o two
    × After n P rest

-- The items close the open blocks, the innermost first.
abbrev Closes : List Block → List Item → Type 0
Closes [] is = (t : Tree) × Spells t is
Closes (b ∷ bs) is = (t : Tree) × (one : List Item) × (rest : List Item) × (is ≡ one ++ rest) × Spells t one
    × (After b.name (Closes bs) rest ⊎ ((b.other ≡ false) × Other b.name (Closes bs) rest))

-- One node more may be before what closes the blocks.
closes-more : (bs : List Block) (x : Branch) (i is : List Item) → SpellsOne x i → Closes bs is → Closes bs (i ++ is)
closes-more [] x i is s c = (node x c.0, (i, is, refl, s, c.1))
closes-more (b ∷ bs) x i is s c =
    (node x c.0, i ++ c.1, c.2, ap (λ l. i ++ l) c.3 ∙ sym (append_assoc i c.1 c.2), (i, c.1, refl, s, c.4), c.5)

-- Equal items close the same blocks.
closes-same : (bs : List Block) (is js : List Item) → is ≡ js → Closes bs is → Closes bs js
closes-same bs is js e c = let P : List Item → Type 0 = λ l. Closes bs l in subst P e c

-- A begin is before what closes its block too.
closes-begin : (bs : List Block) (n : Name) (w : Walk) (place : ℕ) (is : List Item) → Closes (opened n false place ∷ bs) is → Closes bs (item.begin n w ∷ is)
closes-begin bs n w place is c = by c.5
  where
    by : After n (Closes bs) c.2 ⊎ ((false ≡ false) × Other n (Closes bs) c.2) → Closes bs (item.begin n w ∷ is)
    by (inl a) =
        closes-same bs (item.begin n w ∷ ((c.1 ++ [] ++ (item.finish n ∷ [])) ++ a.0)) (item.begin n w ∷ is)
        (ap (λ (l : List Item). item.begin n w ∷ l) (append_assoc (c.1 ++ []) (item.finish n ∷ []) a.0 ∙ ap (λ l. l ++ (item.finish n ∷ a.0)) (append-nil c.1)
        ∙ ap (λ l. c.1 ++ l) (sym a.1) ∙ sym c.3))
        (closes-more bs (trees.block (head n w) c.0 done) (item.begin n w ∷ (c.1 ++ [] ++ (item.finish n ∷ []))) a.0
        (spells_block n w c.0 done c.1 [] c.4 (inl (refl, refl))) a.2)
    by (inr o) =
        let p = o.1 in
        let two = item.otherwise ∷ p.3 in
        let a = p.7 in
        closes-same bs (item.begin n w ∷ ((c.1 ++ two ++ (item.finish n ∷ [])) ++ a.0)) (item.begin n w ∷ is)
        (ap (λ (l : List Item). item.begin n w ∷ l)
        (append_assoc (c.1 ++ two) (item.finish n ∷ []) a.0 ∙ append_assoc c.1 two (item.finish n ∷ a.0)
        ∙ ap (λ l. c.1 ++ (item.otherwise ∷ (p.3 ++ l))) (sym a.1) ∙ ap (λ (l : List Item). c.1 ++ (item.otherwise ∷ l)) (sym p.5)
        ∙ ap (λ l. c.1 ++ l) (sym p.1) ∙ sym c.3))
        (closes-more bs (trees.block (head n w) c.0 p.2) (item.begin n w ∷ (c.1 ++ two ++ (item.finish n ∷ []))) a.0
        (spells_block n w c.0 p.2 c.1 two c.4 (inr (p.3, refl, p.6))) a.2)

-- An else is before what closes a block whose else has come.
closes-else : (bs : List Block) (b : Block) (is : List Item) → b.other ≡ false → Closes (record b { other = true } ∷ bs) is
    → Closes (b ∷ bs) (item.otherwise ∷ is)
closes-else bs b is e c = by c.5
  where
    by : After b.name (Closes bs) c.2 ⊎ ((true ≡ false) × Other b.name (Closes bs) c.2) → Closes (b ∷ bs) (item.otherwise ∷ is)
    by (inl a) = (done, [], item.otherwise ∷ is, refl, refl, inr (e, (is, refl, c.0, c.1, c.2, c.3, c.4, a)))
    by (inr o) = absurd (let f = o.0 in cc)

-- A test that gives no fault failed.
unless-two : (b : Bool) (k : TemplateKind) → (if b then Some k else None) ≡ None → b ≡ false
unless-two true k e = absurd (cc)
unless-two false k e = refl

-- A test whose failure is a fault passed.
unless-other : (b : Bool) (k : TemplateKind) → (if b then None else Some k) ≡ None → b ≡ true
unless-other true k e = refl
unless-other false k e = absurd (cc)

-- What a form without a fault says, and then what closes the blocks after it, closes those before it.
closes-form : (place : ℕ) (bs : List Block) (f : Form) (is : List Item) → form_fault bs f ≡ None → Closes (after_form place bs f) is
    → Closes bs (form_item f ++ is)
unfolding form_fault
closes-form place bs form.Comment is e c = c
closes-form place bs (form.Print x) is e c = closes-more bs (trees.print x) (item.print x ∷ []) is refl c
closes-form place bs (form.Begin n w) is e c = closes-begin bs n w place is c
closes-form place [] form.Otherwise is e c = absurd (cc)
closes-form place (b ∷ bs) form.Otherwise is e c = closes-else bs b is (unless-two b.other _ e) c
closes-form place [] (form.Finish n) is e c = absurd (cc)
closes-form place (b ∷ bs) (form.Finish n) is e c = (
  done,
  [],
  item.finish n ∷ is,
  refl,
  refl,
  inl (
    is,
    ap (λ (m : Name). item.finish m ∷ is) (same_name-eq n b.name (unless-other (same_name n b.name) _ e)),
    c,
  ),
)

-- The same of a tag.
closes-tag : (place : ℕ) (bs : List Block) (o : Option Tag) (is : List Item) → at place (tag_fault bs o) ≡ None → Closes (after_tag place bs o) is
    → Closes bs (tag_item o ++ is)
closes-tag place bs None is e c = absurd (cc)
closes-tag place bs (Some t) is e c = closes-form place bs t.form is (no_kind (form_fault bs t.form) e) c
  where
    no_kind : (o : Option TemplateKind) → at place o ≡ None → o ≡ None
    no_kind None e = refl
    no_kind (Some k) e = absurd (cc)

-- The same of a text.
closes-text : (t : Bool) (base start end : ℕ) (bs : List Block) (is : List Item) → Closes bs is
    → Closes bs ((if t then item.text (record { start = base + start; end = base + end }) ∷ [] else []) ++ is)
closes-text true base start end bs is c = closes-more bs (trees.text (record { start = base + start; end = base + end }))
    (item.text (record { start = base + start; end = base + end }) ∷ []) is refl c
closes-text false base start end bs is c = c

-- The same of a piece.
closes-piece : (base place start front back : ℕ) (bs : List Block) (p : Piece) (after : List ℕ) (is : List Item) → piece_fault place bs after p ≡ None
    → Closes (after_piece place bs p) is
    → Closes bs (piece_item base start front back p ++ is)
unfolding piece_fault
closes-piece base place start front back bs (piece.text bytes) after is e c =
    closes-text (nat_lt (start + front) (start + length bytes - back)) base (start + front) (start + length bytes - back) bs is c
closes-piece base place start front back bs (piece.tag bytes) after is e c = closes-tag place bs (tag_of bytes) is e c
closes-piece base place start front back bs (piece.unclosed bytes) after is e c = absurd (cc)

-- Where neither is answered, both are none.
or-none : {T : Type 0} (a b : Option T) → option_or a b ≡ None → (a ≡ None) × (b ≡ None)
or-none None b e = (refl, e)
or-none (Some x) b e = absurd (cc)

-- Pieces without a fault close all blocks.
closes : (base place : ℕ) (before : List ℕ) (front : ℕ) (bs : List Block) (ps : List Piece) → fault_in place bs ps ≡ None
    → Closes bs (items_in base before front ps)
unfolding fault_in items_in
closes base place before front [] [] e = (done, refl)
closes base place before front (b ∷ bs) [] e = absurd (cc)
closes base place before front bs (p ∷ ps) e =
    let n = or-none (piece_fault place bs (all_bytes ps) p) (fault_in (place + length (bytes_of p)) (after_piece place bs p) ps) e in
    closes-piece base place (length before) front (first_takes (before ++ bytes_of p) ps) bs p (all_bytes ps)
    (items_in base (before ++ bytes_of p) (tag_takes_after (tag_in p) before (all_bytes ps)) ps) n.0
    (closes base (place + length (bytes_of p)) (before ++ bytes_of p) (tag_takes_after (tag_in p) before (all_bytes ps)) (after_piece place bs p) ps n.1)

-- A body without a fault has a tree.
body-parses : (base : ℕ) (body : List ℕ) → body_fault body ≡ None → (t : Tree) × ParsesBody base body t
body-parses base body e =
    let c = closes base 0 [] 0 [] (cut body) (sym (fault-whole body) ∙ e) in
    let P : List Item → Type 0 = λ is. Spells c.0 is in
    (c.0, record { faultless = e; nests = subst P (sym (items-whole base body)) c.1 })

-- A source without a fault has a tree.
pub source-parses : (source : List ℕ) → fault source ≡ None → (t : Tree) × Parses source t
unfolding fault
source-parses source e = by (body_start source) refl
  where
    no_fault : (base : ℕ) (o : Option TemplateError) → option_map (moved base) o ≡ None → o ≡ None
    no_fault base None e = refl
    no_fault base (Some f) e = absurd (cc)

    by : (o : Option ℕ) → body_start source ≡ o → (t : Tree) × Parses source t
    by None f = absurd (let g = sym (ap (fault_from source) f) ∙ e in cc)
    by (Some base) f =
        let p = body-parses base (drop base source) (no_fault base (body_fault (drop base source)) (sym (ap (fault_from source) f) ∙ e)) in
        (p.0, record { start = base; front = f; body = p.1 })

-- A reading that was kept, out of its truncation.
pub reading-had : (source : List ℕ) (t : Tree) → ∥ Parses source t ∥₁ → Parses source t
reading-had source t h =
    let none : fault source ≡ None = ∥∥₁_elim h (fault-set (fault source) None) (λ p. faultless source t p) in
    let p = source-parses source none in
    let same : p.0 ≡ t = ∥∥₁_elim h (tree-set p.0 t) (λ q. one_parse source p.0 t p.1 q) in
    let P : Tree → Type 0 = λ t. Parses source t in
    subst P same p.1
  where
    fault-set : IsSet (Option TemplateError)
    fault-set = Coded-set (coded_option error.the_row.coded)
