use Rattle.std.proofs.Common.{◌≡◌, ◌+◌, ◌-◌, ◌∷◌, take, drop, sym, ◌∙◌, ap, arith}
use Rattle.std.specs.List.{position}
use Rattle.key_names.specs.Packed.{parts}
use Rattle.key_names.proofs.Cuts.{is_zero, cut_parts, uncut_parts, boundary_at_zero, boundary_after_zero}
use Rattle.key_names.proofs.packed_text.cut.Goals as goal

pub returns-in_err-at-clause-parts : goal.returns-in_err-at-clause-parts
returns-in_err-at-clause-parts c =
    rw c.from_residual.ensures (uncut_parts c.args.text.now (sym (c.in_err-at.ensures.value ∙ ap (position is_zero) c.as_bytes.ensures.value)))

pub range-requires-clause-end_boundary : goal.range-requires-clause-end_boundary
range-requires-clause-end_boundary c =
    boundary_at_zero c.args.text.now c.in_ok-at.at (sym (c.in_ok-at.ensures.value ∙ ap (position is_zero) c.as_bytes.ensures.value))

pub range_from-requires : goal.range_from-requires
range_from-requires c =
    λ _. boundary_after_zero c.args.text.now c.in_ok-at.at c.utf8.text (sym (c.in_ok-at.ensures.value ∙ ap (position is_zero) c.as_bytes.ensures.value))

pub returns-clause-parts : goal.returns-clause-parts
returns-clause-parts c =
    let text = c.args.text.now in
    let at = c.in_ok-at.at in
    let from_start : at ≡ at - 0 = omega arith in
    cut_parts text at (sym (c.in_ok-at.ensures.value ∙ ap (position is_zero) c.as_bytes.ensures.value))
    ∙ (λ i. take (from_start i) text ∷ parts (drop (at + 1) text))
    ∙ (λ i. sym c.range.ensures.value i ∷ parts (sym c.range_from.ensures.value i))
