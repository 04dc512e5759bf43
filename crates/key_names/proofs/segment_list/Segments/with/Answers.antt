use Rattle.std.proofs.Common.{◌≡◌, true, List, ℕ, [], ◌∷◌, ◌++◌, ◌+◌, ◌==◌, length, sym, ◌∙◌, ap, subst, arith, eqb-true}
use Rattle.std.specs.Prelude.{string_bytes}
use Rattle.std.specs.List.{list_all}
use Rattle.std.proofs.lemmas.Bool.{and_parts}
use Rattle.key_names.specs.Segment.{is_segment}
use Rattle.key_names.specs.Packed.{segments_of, are_packed}
use Rattle.key_names.proofs.Packed.{segments_of-longer, length-segments_of, are_packed-longer}
use Rattle.key_names.proofs.segment_list.Segments.with.Goals as goal

pub overflow_add-result : goal.overflow_add-result
overflow_add-result c =
    let text = (string_bytes c.self.inside.text) in
    let counted = eqb-true c.self.inside.count (length (segments_of text))
    (and_parts (c.self.inside.count == length (segments_of text)) (list_all is_segment (segments_of text)) c.self.invariant).0 in
    omega (arith, counted, length-segments_of text)

pub invariant_of-result : goal.invariant_of-result
invariant_of-result c =
    subst (λ (t : List ℕ). are_packed (c.self.inside.count + 1) t ≡ true) (sym c.in_ok-push.ensures)
    (are_packed-longer c.self.inside.count (string_bytes c.self.inside.text) c.args.segment.now c.self.invariant c.requires)

pub returns : goal.returns
returns c =
    ap segments_of c.in_ok-push.ensures
    ∙ segments_of-longer (string_bytes c.self.inside.text) c.args.segment.now c.requires
    ∙ ap (λ (l : List (List ℕ)). l ++ c.args.segment.now ∷ []) c.self.view_is
