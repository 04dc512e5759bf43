-- The place of a fault lies in the body.
use Rattle.std.proofs.Common.{◌≡◌, ℕ, ◌+◌, ◌-◌, ◌≤◌, Bool, true, false, List, [], ◌∷◌, length, Option, Some, None, sym, ap, ◌∙◌, arith, inl, inr, if◌then◌else◌}
use Rattle.std.specs.Prelude.{◌⊎◌, codes, ◌&&◌}
use Rattle.std.specs.Option.{option_or}
use Rattle.std.proofs.lemmas.List.{length-append}
use Rattle.template_reader.specs.Bytes.{begins, ends}
use Rattle.template_reader.specs.Cut.{Piece, bytes_of, cut}
use Rattle.template_reader.specs.Cut as piece
use Rattle.template_reader.specs.Says.{tag_of}
use Rattle.template_reader.specs.Spot.{Block, after_form, after_tag, after_piece, all_bytes}
use Rattle.template_reader.specs.Fault.{tag_fault, at, piece_fault, body_fault}
use Rattle.template_reader.specs.Reading.{fault_in}
use Rattle.template_reader.specs.declared.tag.Form.{Form}
use Rattle.template_reader.specs.declared.tag.Form.TheVariants as form
use Rattle.template_reader.specs.declared.tag.Tag.{Tag}
use Rattle.template_reader.specs.declared.template_error.TemplateError.{TemplateError}
use Rattle.template_reader.specs.declared.template_error.TemplateKind.{TemplateKind}
use Rattle.template_reader.specs.declared.template_error.TemplateKind.TheVariants.{Escape}
use Rattle.template_reader.proofs.Steps.{bytes-cut}
use Rattle.template_reader.proofs.Whole.{fault-whole}

-- All blocks begin no later than a place.
abbrev AreBefore : ℕ → List Block → Type 0
AreBefore limit [] = Unit {0}
AreBefore limit (b ∷ bs) = (b.place ≤ limit) × AreBefore limit bs

-- They do after what a tag says.
before-form : (limit place : ℕ) (bs : List Block) (f : Form) → place ≤ limit → AreBefore limit bs → AreBefore limit (after_form place bs f)
before-form limit place bs form.Comment h a = a
before-form limit place bs (form.Print e) h a = a
before-form limit place bs (form.Begin n w) h a = (h, a)
before-form limit place [] form.Otherwise h a = a
before-form limit place (b ∷ bs) form.Otherwise h a = (a.0, a.1)
before-form limit place [] (form.Finish n) h a = a
before-form limit place (b ∷ bs) (form.Finish n) h a = a.1

-- They do after a tag.
before-tag : (limit place : ℕ) (bs : List Block) (o : Option Tag) → place ≤ limit → AreBefore limit bs → AreBefore limit (after_tag place bs o)
before-tag limit place bs None h a = a
before-tag limit place bs (Some t) h a = before-form limit place bs t.form h a

-- They do after a piece.
before-piece : (limit place : ℕ) (bs : List Block) (p : Piece) → place ≤ limit → AreBefore limit bs → AreBefore limit (after_piece place bs p)
before-piece limit place bs (piece.text bytes) h a = a
before-piece limit place bs (piece.tag bytes) h a = before-tag limit place bs (tag_of bytes) h a
before-piece limit place bs (piece.unclosed bytes) h a = a

-- A fault that is known has the known place.
place_of : (k : TemplateKind) (place : ℕ) (e : TemplateError) → Some (record { kind = k; place = place }) ≡ Some e → place ≡ e.place
place_of k place e h = ap (λ (o : Option TemplateError). placed o) h
  where
    placed : Option TemplateError → ℕ
    placed None = 0
    placed (Some e) = e.place

-- So has one that a test decides.
place-if : (t : Bool) (k : TemplateKind) (place : ℕ) (e : TemplateError) → (if t then Some (record { kind = k; place = place }) else None) ≡ Some e
    → place ≡ e.place
place-if true k place e h = place_of k place e h
place-if false k place e h = absurd (cc)

-- So has one that is put at a place.
place-at : (place : ℕ) (o : Option TemplateKind) (e : TemplateError) → at place o ≡ Some e → place ≡ e.place
place-at place None e h = absurd (cc)
place-at place (Some k) e h = place_of k place e h

-- The fault of a piece is within it.
piece-within : (place : ℕ) (bs : List Block) (after : List ℕ) (p : Piece) (e : TemplateError) → piece_fault place bs after p ≡ Some e
    → e.place ≤ place + length (bytes_of p)
unfolding piece_fault
piece-within place bs after (piece.text bytes) e h = let f = place-if (begins after (codes "{{") && ends bytes (92 ∷ [])) Escape (place + (length bytes - 1)) e
    h in omega arith
piece-within place bs after (piece.tag bytes) e h = let f = place-at place (tag_fault bs (tag_of bytes)) e h in omega arith
piece-within place bs after (piece.unclosed bytes) e h = let f = place_of _ place e h in omega arith

-- What one of two answers is answered by the first or by the second.
or-some : {T : Type 0} (a b : Option T) (x : T) → option_or a b ≡ Some x → (a ≡ Some x) ⊎ (b ≡ Some x)
or-some None b x h = inr h
or-some (Some y) b x h = inl h

-- The first fault of pieces is within their bytes.
within : (limit place : ℕ) (bs : List Block) (ps : List Piece) (e : TemplateError) → AreBefore limit bs → place + length (all_bytes ps) ≡ limit
    → fault_in place bs ps ≡ Some e → e.place ≤ limit
unfolding fault_in
within limit place [] [] e a l h = absurd (cc)
within limit place (b ∷ bs) [] e a l h = let f = place_of _ b.place e h in omega (arith, a.0)
within limit place bs (p ∷ ps) e a l h =
    by (λ f. within limit (place + length (bytes_of p)) (after_piece place bs p) ps e (before-piece limit place bs p (omega arith) a)
    (omega (arith, length-append (bytes_of p) (all_bytes ps))) f)
    (or-some (piece_fault place bs (all_bytes ps) p) (fault_in (place + length (bytes_of p)) (after_piece place bs p) ps) e h)
  where
    by : (fault_in (place + length (bytes_of p)) (after_piece place bs p) ps ≡ Some e → e.place ≤ limit)
        → (piece_fault place bs (all_bytes ps) p ≡ Some e) ⊎ (fault_in (place + length (bytes_of p)) (after_piece place bs p) ps ≡ Some e) → e.place ≤ limit
    by later (inl f) = omega (arith, piece-within place bs (all_bytes ps) p e f, length-append (bytes_of p) (all_bytes ps))
    by later (inr f) = later f

-- The place of a fault is within the body.
pub fault_within : (body : List ℕ) (e : TemplateError) → body_fault body ≡ Some e → e.place ≤ length body
fault_within body e h = within (length body) 0 [] (cut body) e tt (omega (arith, ap length (bytes-cut body))) (sym (fault-whole body) ∙ h)
