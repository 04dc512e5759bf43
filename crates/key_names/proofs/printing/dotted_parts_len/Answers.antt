use Rattle.std.proofs.Common.{rules, ◌+◌, List, ℕ, [], length, sym, ◌∙◌, ap, arith}
use Rattle.std.specs.List.{list_all, sum_by}
use Rattle.std.proofs.lemmas.Bool.{and_parts}
use Rattle.std.proofs.lemmas.List.Sums.{sum_by-cons}
use Rattle.key_names.specs.Segment.{has_short_name, printed_segment}
use Rattle.key_names.specs.Packed.{parts}
use Rattle.key_names.proofs.printing.dotted_parts_len.Goals as goal

pub dotted_segment_len-len-requires : goal.dotted_segment_len-len-requires
dotted_segment_len-len-requires c = (and_parts (has_short_name c.in-Some.front.now) _
    (sym (ap (list_all has_short_name) c.in-Some.ensures.parts) ∙ c.loop-front.invariant.short)).0

pub dotted_segment_len-requires : goal.dotted_segment_len-requires
dotted_segment_len-requires c = (and_parts (has_short_name c.loop-front.rest.now) _
    (sym (ap (list_all has_short_name) c.in_default.ensures.parts) ∙ c.loop-front.invariant.short)).0

pub loop-front-preserved : goal.loop-front-preserved
loop-front-preserved c =
    let front = c.in-Some.front.now in
    let back = c.in-Some.back.now in
    let is = c.in-Some.ensures.parts in
    let sum = ap (sum_by (λ (s : List ℕ). length (printed_segment s) + 1)) is ∙ sum_by-cons (λ (s : List ℕ). length (printed_segment s) + 1) front (parts back)
    in
    record {
      whole = omega (arith, c.loop-front.invariant.whole, sum, c.dotted_segment_len-len.ensures.value);
      bound = omega (arith, c.loop-front.invariant.bound, ap length is, c.dotted_segment_len-len.ensures.bound);
      short = (and_parts (has_short_name front) (list_all has_short_name (parts back))
          (sym (ap (list_all has_short_name) is) ∙ c.loop-front.invariant.short)).1;
      text = search rules;
    }

pub returns-clause-value : goal.returns-clause-value
returns-clause-value c =
    let rest = c.loop-front.rest.now in
    let sum = ap (sum_by (λ (s : List ℕ). length (printed_segment s) + 1)) c.in_default.ensures.parts
    ∙ sum_by-cons (λ (s : List ℕ). length (printed_segment s) + 1) rest [] in
    omega (arith, c.loop-front.invariant.whole, sum, c.dotted_segment_len.ensures.value)

pub returns-clause-bound : goal.returns-clause-bound
returns-clause-bound c = omega (arith, c.loop-front.invariant.bound, ap length c.in_default.ensures.parts, c.dotted_segment_len.ensures.bound)
