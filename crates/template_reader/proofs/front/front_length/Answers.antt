use Rattle.std.proofs.Common.{sym, ◌∙◌, ap, refl}
use Rattle.template_reader.specs.Front.{is_fence}
use Rattle.std.specs.Prelude.{◌&&◌}
use Rattle.template_reader.proofs.Fences.{looks-first, looks-found, looks-more, looks-none}
use Rattle.template_reader.proofs.front.front_length.Goals as goal

pub loop-i-init : goal.loop-i-init
loop-i-init c = looks-first c.args.source.now

pub returns-then-is_fence_line-clause-value : goal.returns-then-is_fence_line-clause-value
returns-then-is_fence_line-clause-value c =
    looks-found c.args.source.now c.loop-i.i c.loop-i.begins_line c.loop-i.invariant c.loop-i-test.true
    (ap (λ l. c.loop-i.begins_line && is_fence l) (sym c.tail.ensures) ∙ sym c.is_fence_line.ensures ∙ c.if-is_fence_line.true)

pub loop-i-preserved : goal.loop-i-preserved
loop-i-preserved c =
    looks-more c.args.source.now c.loop-i.i c.loop-i.begins_line _ c.loop-i.invariant c.loop-i-test.true
    (ap (λ l. c.loop-i.begins_line && is_fence l) (sym c.tail.ensures) ∙ sym c.is_fence_line.ensures ∙ c.if-is_fence_line.false) refl

pub returns-clause-value : goal.returns-clause-value
returns-clause-value c = looks-none c.args.source.now c.loop-i.i c.loop-i.begins_line c.loop-i.invariant c.loop-i-test.false
