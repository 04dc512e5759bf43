use Rattle.std.proofs.Common.{rules, List, ℕ, [], ◌∷◌, ◌++◌, sym, ◌∙◌, ap}
use Rattle.std.specs.Prelude.{string_bytes}
use Rattle.std.proofs.lemmas.List.{append_assoc}
use Rattle.key_names.specs.Segment.{printed_segment}
use Rattle.key_names.specs.Key.{printed}
use Rattle.key_names.specs.Packed.{parts}
use Rattle.key_names.proofs.Printed.{printed-parts, printed-one}
use Rattle.key_names.proofs.printing.each_printed.Goals as goal

pub loop-front-preserved : goal.loop-front-preserved
unfolding lib.Utf8.encode
loop-front-preserved c =
    let front = c.in-Some.front.now in
    let back = c.in-Some.back.now in
    let so_far = string_bytes c.loop-front.out in
    let left = printed (parts back) in
    record {
      whole =
          ap (λ (b : List ℕ). b ++ left) (c.in_ok-push.ensures.bytes ∙ ap (λ (b : List ℕ). b ++ 46 ∷ []) c.in_ok-push_segment.ensures)
          ∙ append_assoc (so_far ++ printed_segment front) (46 ∷ []) left
          ∙ append_assoc so_far (printed_segment front) (46 ∷ left)
          ∙ ap (λ (b : List ℕ). so_far ++ b) (sym (ap printed c.in-Some.ensures.parts ∙ printed-parts front back))
          ∙ c.loop-front.invariant.whole;
      text = search rules;
    }

pub returns : goal.returns
returns c =
    c.in_ok-push_segment-2.ensures
    ∙ ap (λ (b : List ℕ). string_bytes c.loop-front.out ++ b) (sym (ap printed c.in_default.ensures.parts ∙ printed-one c.loop-front.rest.now))
    ∙ c.loop-front.invariant.whole
