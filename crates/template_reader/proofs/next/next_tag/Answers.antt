use Rattle.std.proofs.Common.{ap, sym, ◌∙◌, length, take, arith, refl, true, false}
use Rattle.template_reader.specs.Cut.{tag_length}
use Rattle.template_reader.specs.Says.{tag_of}
use Rattle.template_reader.proofs.Steps.{text-reaches}
use Rattle.template_reader.proofs.NextTag.{called, before_end, at_end, ends-words, length-behind, is_next, is_escape, is_unclosed, is_bad}
use Rattle.template_reader.proofs.next.next_tag.Goals as goal

pub split_at-requires : goal.split_at-requires
split_at-requires c = omega (arith, c.text_length.ensures, (text-reaches c.tail-rest.result.now).0)

pub returns-then-is_empty-clause-last : goal.returns-then-is_empty-clause-last
returns-then-is_empty-clause-last c =
    let k = called c.args.body.now c.args.from c.tail-rest.result.now c.split_at.result.0.now c.split_at.result.1.now c.text_length.result c.requires
    c.tail-rest.ensures c.text_length.ensures c.split_at.ensures.front c.split_at.ensures.back in
    at_end _ _ _ _ c.is_empty.result k c.is_empty.ensures c.if-is_empty.true c.requires

pub returns-then-ends_with-clause-wrong : goal.returns-then-ends_with-clause-wrong
returns-then-ends_with-clause-wrong c =
    let k = called c.args.body.now c.args.from c.tail-rest.result.now c.split_at.result.0.now c.split_at.result.1.now c.text_length.result c.requires
    c.tail-rest.ensures c.text_length.ensures c.split_at.ensures.front c.split_at.ensures.back in
    let h = before_end _ _ _ _ c.is_empty.result k c.is_empty.ensures c.if-is_empty.false in
    λ _. is_escape _ _ _ k.found h (ends-words _ _ _ _ c.ends_with.result true k c.ends_with.ensures.value c.if-ends_with.true)

pub tag_length-requires : goal.tag_length-requires
tag_length-requires c =
    let k = called c.args.body.now c.args.from c.tail-rest.result.now c.split_at.result.0.now c.split_at.result.1.now c.text_length.result c.requires
    c.tail-rest.ensures c.text_length.ensures c.split_at.ensures.front c.split_at.ensures.back in
    length-behind _ _ _ _ k (before_end _ _ _ _ c.is_empty.result k c.is_empty.ensures c.if-is_empty.false)

pub returns-in_default-clause-wrong : goal.returns-in_default-clause-wrong
returns-in_default-clause-wrong c =
    let k = called c.args.body.now c.args.from c.tail-rest.result.now c.split_at.result.0.now c.split_at.result.1.now c.text_length.result c.requires
    c.tail-rest.ensures c.text_length.ensures c.split_at.ensures.front c.split_at.ensures.back in
    let h = before_end _ _ _ _ c.is_empty.result k c.is_empty.ensures c.if-is_empty.false in
    let plain = ends-words _ _ _ _ c.ends_with.result false k c.ends_with.ensures.value c.if-ends_with.false in
    λ _. is_unclosed _ _ _ k.found h plain (sym (ap tag_length k.behind_is) ∙ sym c.tag_length.ensures.value ∙ c.in_default.is)

pub returns-in-Some-2-clause-next : goal.returns-in-Some-2-clause-next
returns-in-Some-2-clause-next c =
    let k = called c.args.body.now c.args.from c.tail-rest.result.now c.split_at.result.0.now c.split_at.result.1.now c.text_length.result c.requires
    c.tail-rest.ensures c.text_length.ensures c.split_at.ensures.front c.split_at.ensures.back in
    let h = before_end _ _ _ _ c.is_empty.result k c.is_empty.ensures c.if-is_empty.false in
    let plain = ends-words _ _ _ _ c.ends_with.result false k c.ends_with.ensures.value c.if-ends_with.false in
    let n = c.in-Some.len in
    let size = sym (ap tag_length k.behind_is) ∙ sym c.tag_length.ensures.value ∙ c.in-Some.is in
    is_next _ _ _ n _ c.in-Some-2.tag k.found h plain size c.in-Some.ensures.bound.0 (omega (arith, c.in-Some.ensures.bound.1, ap length k.behind_is)) refl
    (sym c.in-Some-2.is ∙ c.in_ok-tag.ensures ∙ ap tag_of (c.split_at-2.ensures.front ∙ ap (λ l. take n l) k.behind_is))

pub returns-in-None-clause-wrong : goal.returns-in-None-clause-wrong
returns-in-None-clause-wrong c =
    let k = called c.args.body.now c.args.from c.tail-rest.result.now c.split_at.result.0.now c.split_at.result.1.now c.text_length.result c.requires
    c.tail-rest.ensures c.text_length.ensures c.split_at.ensures.front c.split_at.ensures.back in
    let h = before_end _ _ _ _ c.is_empty.result k c.is_empty.ensures c.if-is_empty.false in
    let plain = ends-words _ _ _ _ c.ends_with.result false k c.ends_with.ensures.value c.if-ends_with.false in
    let n = c.in-Some.len in
    let size = sym (ap tag_length k.behind_is) ∙ sym c.tag_length.ensures.value ∙ c.in-Some.is in
    λ _. is_bad _ _ _ n k.found h plain size (omega (arith, c.in-Some.ensures.bound.1, ap length k.behind_is))
    (sym c.in-None.is ∙ c.in_ok-tag.ensures ∙ ap tag_of (c.split_at-2.ensures.front ∙ ap (λ l. take n l) k.behind_is))
