use Rattle.std.proofs.Common.{eq-eqb, true≢false, sym, ◌∙◌, length, arith}
use Rattle.key_names.proofs.Packed.{length-segments}
use Rattle.key_names.proofs.packed_text.count.Goals as goal

pub returns : goal.returns
returns c =
    omega (
      arith,
      c.zeros.ensures.value,
      length-segments c.args.text.now (λ none. true≢false (sym (eq-eqb (length c.args.text.now) 0 none) ∙ sym c.is_empty.ensures ∙ c.if-is_empty.false)),
    )
