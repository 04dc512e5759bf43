-- The spots of a body, and what is read of it from the front.
use Rattle.std.proofs.Common.{◌≡◌, ℕ, ◌+◌, List, [], ◌∷◌, ◌++◌, length, Option, Some}
use Rattle.std.proofs.Common.{None, refl, sym, ap, ◌∙◌, arith, append_assoc, subst, false, add-zero, zero-add}
use Rattle.std.specs.Option.{option_or}
use Rattle.std.proofs.lemmas.List.{append-nil, length-append}
use Rattle.std.proofs.lemmas.List.Concat.{flat_map-append}
use Rattle.template_reader.specs.Cut.{Piece, bytes_of, cut}
use Rattle.template_reader.specs.Spot.{Block, after_piece, blocks_after, all_bytes, spots_behind, spots}
use Rattle.template_reader.specs.Fault.{first_fault, never_closed, body_fault, piece_fault, form_fault}
use Rattle.template_reader.specs.Taken.{Item, piece_item, tag_in, tag_takes_after, first_takes_before, items_behind}
use Rattle.template_reader.specs.Reading.{fault_in, items_in, first_takes, fault_at, items_at, Stops, Fails, Fits, stop_fault, stop_items}
use Rattle.template_reader.specs.Nest.{Spells, ParsesBody}
use Rattle.template_reader.specs.Tree.{Tree, done}
use Rattle.template_reader.specs.declared.reading.Stop.{Stop}
use Rattle.template_reader.specs.declared.reading.Stop.TheVariants as stop
use Rattle.template_reader.specs.declared.tag.Name.{Name}
use Rattle.template_reader.specs.declared.template_error.TemplateError.{TemplateError}
use Rattle.template_reader.specs.declared.template_error.TemplateKind.TheVariants.{NotBegun}

-- Of three the first that is there, however they are grouped.
or-or : {T : Type 0} (a b c : Option T) → option_or (option_or a b) c ≡ option_or a (option_or b c)
or-or None b c = refl
or-or (Some x) b c = refl

-- The blocks after one piece more.
blocks-append : (place : ℕ) (blocks : List Block) (ps : List Piece) (p : Piece)
    → blocks_after place blocks (ps ++ p ∷ []) ≡ after_piece (place + length (all_bytes ps)) (blocks_after place blocks ps) p
unfolding blocks_after
blocks-append place blocks [] p = ap (λ k. after_piece k blocks p) (sym (add-zero place))
blocks-append place blocks (q ∷ ps) p =
    blocks-append (place + length (bytes_of q)) (after_piece place blocks q) ps p
    ∙ ap (λ k. after_piece k (blocks_after (place + length (bytes_of q)) (after_piece place blocks q) ps) p)
    (omega (arith, length-append (bytes_of q) (all_bytes ps)))

-- The bytes of one piece more.
bytes-append : (ps : List Piece) (p : Piece) → all_bytes (ps ++ p ∷ []) ≡ all_bytes ps ++ bytes_of p
bytes-append ps p = flat_map-append bytes_of ps (p ∷ []) ∙ ap (λ l. all_bytes ps ++ l) (append-nil (bytes_of p))

-- The first of the faults after some pieces, or the block that is open at the end.
faults : (behind ps : List Piece) → option_or (first_fault (spots_behind behind ps)) (never_closed (blocks_after 0 [] (behind ++ ps)))
    ≡ fault_in (length (all_bytes behind)) (blocks_after 0 [] behind) ps
unfolding spots_behind first_fault fault_in
faults behind [] = ap (λ l. never_closed (blocks_after 0 [] l)) (append-nil behind)
faults behind (p ∷ ps) =
    let here = piece_fault (length (all_bytes behind)) (blocks_after 0 [] behind) (all_bytes ps) p in
    or-or here (first_fault (spots_behind (behind ++ p ∷ []) ps)) (never_closed (blocks_after 0 [] (behind ++ p ∷ ps)))
    ∙ ap (λ l. option_or here (option_or (first_fault (spots_behind (behind ++ p ∷ []) ps)) (never_closed (blocks_after 0 [] l))))
    (sym (append_assoc behind (p ∷ []) ps))
    ∙ ap (option_or here) (faults (behind ++ p ∷ []) ps)
    ∙ ap (λ k. option_or here (fault_in k (blocks_after 0 [] (behind ++ p ∷ [])) ps))
    (ap length (bytes-append behind p) ∙ length-append (all_bytes behind) (bytes_of p))
    ∙ ap (λ b. option_or here (fault_in (length (all_bytes behind) + length (bytes_of p)) b ps))
    (blocks-append 0 [] behind p ∙ ap (λ k. after_piece k (blocks_after 0 [] behind) p) (zero-add (length (all_bytes behind))))

-- What the first of the pieces in their places takes is what it takes of the bytes before it.
takes-first : (behind ps : List Piece) → first_takes_before (spots_behind behind ps) ≡ first_takes (all_bytes behind) ps
unfolding spots_behind
takes-first behind [] = refl
takes-first behind (p ∷ ps) = refl

-- What pieces in their places say is what they say after the bytes before them.
items : (base front : ℕ) (behind ps : List Piece) → items_behind base front (spots_behind behind ps) ≡ items_in base (all_bytes behind) front ps
unfolding spots_behind items_behind items_in
items base front behind [] = refl
items base front behind (p ∷ ps) =
    let next = tag_takes_after (tag_in p) (all_bytes behind) (all_bytes ps) in
    ap (λ k. piece_item base (length (all_bytes behind)) front k p ++ items_behind base next (spots_behind (behind ++ p ∷ []) ps))
    (takes-first (behind ++ p ∷ []) ps)
    ∙ ap (λ l. piece_item base (length (all_bytes behind)) front (first_takes (all_bytes (behind ++ p ∷ [])) ps) p ++ l) (items base next (behind ++ p ∷ []) ps)
    ∙ ap (λ b. piece_item base (length (all_bytes behind)) front (first_takes b ps) p ++ items_in base b next ps) (bytes-append behind p)

-- The first fault of a body is the first one from its start on.
pub fault-whole : (body : List ℕ) → body_fault body ≡ fault_at body 0 []
unfolding body_fault spots blocks_after
fault-whole body = faults [] (cut body)

-- What a body says is what it says from its start on.
pub items-whole : (base : ℕ) (body : List ℕ) → items_behind base 0 (spots body) ≡ items_at base body 0 0
unfolding spots
items-whole base body = items base 0 [] (cut body)

-- At the start of a body no block is open.
none : Fits 0 false []
none = record { depth_is = refl; each_is = refl }

-- A fault from the start on is the body's.
pub whole_fails : (body : List ℕ) (e : TemplateError) → Fails body 0 0 false e → body_fault body ≡ Some e
whole_fails body e f = fault-whole body ∙ f.fault [] none

-- An else outside every block is the body's fault.
pub whole_wrong : (base : ℕ) (body : List ℕ) (t : Tree) (s : Stop) (place end skip : ℕ) → Stops base body 0 0 0 false done t s place end skip
    → s ≡ stop.Otherwise → body_fault body ≡ Some (record { kind = NotBegun; place = place })
unfolding form_fault
whole_wrong base body t s place end skip p e = fault-whole body ∙ p.fault [] none ∙ ap (λ s. stop_fault body [] s place end) e

-- An end outside every block is the body's fault.
pub whole_finish : (base : ℕ) (body : List ℕ) (t : Tree) (s : Stop) (place end skip : ℕ) (n : Name) → Stops base body 0 0 0 false done t s place end skip
    → s ≡ stop.Finish n → body_fault body ≡ Some (record { kind = NotBegun; place = place })
unfolding form_fault
whole_finish base body t s place end skip n p e = fault-whole body ∙ p.fault [] none ∙ ap (λ s. stop_fault body [] s place end) e

-- Nodes that end with the body are its tree.
pub whole_parses : (base : ℕ) (body : List ℕ) (t : Tree) (s : Stop) (place end skip : ℕ) → Stops base body 0 0 0 false done t s place end skip → s ≡ stop.End
    → ParsesBody base body t
whole_parses base body t s place end skip p e =
    let q = p.items in
    let all : items_behind base 0 (spots body) ≡ q.1 = items-whole base body ∙ q.4 ∙ ap (λ s. q.1 ++ stop_items base body s end skip) e ∙ append-nil q.1 in
    let P : Tree → Type 0 = λ u. Spells u q.1 in
    let Q : List Item → Type 0 = λ l. Spells t l in
    record {
      faultless = fault-whole body ∙ p.fault [] none ∙ ap (λ s. stop_fault body [] s place end) e;
      nests = subst Q (sym all) (subst P (sym q.2) q.3);
    }
