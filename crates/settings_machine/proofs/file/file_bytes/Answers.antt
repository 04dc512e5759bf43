use Rattle.std.proofs.Common.{◌≡◌, ℕ, List, Ok, sym, ◌∙◌, ap}
use Rattle.std.proofs.lemmas.Result.{IfOk-weaker, IfErr-weaker}
use Rattle.template_eval.specs.Rendered.{Rendered}
use Rattle.template_reader.specs.Forest.{tree_in}
use Rattle.template_reader.specs.Kept as kept
use Rattle.template_reader.proofs.Sources.{source_spans}
use Rattle.settings_machine.proofs.Rendering.{nothing_is, rendered_is}
use Rattle.settings_machine.proofs.file.file_bytes.Goals as goal

pub returns-in_default-clause-ok : goal.returns-in_default-clause-ok
returns-in_default-clause-ok c =
    let ok : List ℕ → Rendered = λ out. Ok out in
    let same : c.as_bytes.result.now ≡ c.args.file.now = c.as_bytes.ensures.value ∙ c.as_str.ensures in
    record {
      renders = λ I holds os. nothing_is I c.args.templates.now holds c.args.file.now
          (ap (kept.source_of c.args.templates.now) (sym same) ∙ c.in_default.ensures.none) c.args.live.now ∙ ap ok (sym c.new.ensures.items);
    }

pub render-requires : goal.render-requires
render-requires c = source_spans _ _ c.in-Some.ensures.template

pub returns-clause-ok : goal.returns-clause-ok
returns-clause-ok c = IfOk-weaker c.render.result _ _ (λ out is. record {
  renders = λ I holds os. sym (rendered_is I c.args.templates.now holds c.args.os.now os c.args.file.now c.in-Some.parsed.source.now
      (tree_in c.in-Some.parsed.template.now.nodes) (ap (kept.source_of c.args.templates.now) (sym (c.as_bytes.ensures.value ∙ c.as_str.ensures))
      ∙ c.in-Some.ensures.source) c.in-Some.ensures.template c.args.live.now) ∙ is;
}) c.render.ensures.ok

pub returns-clause-err : goal.returns-clause-err
returns-clause-err c = IfErr-weaker c.render.result _ _ (λ e is other. record {
  renders = λ I holds os. sym (rendered_is I c.args.templates.now holds c.args.os.now os c.args.file.now c.in-Some.parsed.source.now
      (tree_in c.in-Some.parsed.template.now.nodes) (ap (kept.source_of c.args.templates.now) (sym (c.as_bytes.ensures.value ∙ c.as_str.ensures))
      ∙ c.in-Some.ensures.source) c.in-Some.ensures.template c.args.live.now) ∙ is other;
}) c.render.ensures.err
