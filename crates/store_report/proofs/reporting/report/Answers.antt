use Rattle.std.proofs.Common.{ℕ, List, ◌++◌, sym, ◌∙◌, ap}
use Rattle.std.specs.Prelude.{not}
use Rattle.std.specs.List.{flat_map}
use Rattle.template_eval.specs.declared.render_error.RenderError.{RenderError}
use Rattle.store_report.specs.declared.ill_typed.IllTyped.{IllTyped}
use Rattle.store_report.specs.declared.reporting.StoreReport.{StoreReport}
use Rattle.store_report.specs.Lines.{ill_typed_line, render_line}
use Rattle.store_report.proofs.Reported.{found_typed, counted, reported}
use Rattle.store_report.proofs.reporting.report.Goals as goal

pub refused_files-requires-clause-typed : goal.refused_files-requires-clause-typed
refused_files-requires-clause-typed c typed = found_typed c.args.image.now.model.types c.args.held.now c.in_ok-values.values.items c.in_ok-values.ensures
    (sym (counted c.in_ok-values.values c.is_empty-is_ill_typed.result c.is_empty-is_ill_typed.ensures) ∙ typed)

pub returns : goal.returns
returns c =
    let report : StoreReport = record {
      lines = c.in_ok-report_lines.field-0;
      ill_typed = not c.is_empty-is_ill_typed.result;
      refuses = not c.is_empty.result;
    } in
    reported c.args.image.now c.args.held.now c.in_ok-values.values.items c.in_ok-files.files.items report c.in_ok-values.ensures
    (c.in_ok-report_lines.ensures
    ∙ ap (λ (l : List IllTyped). flat_map ill_typed_line l ++ flat_map render_line c.deref-2.result.now) c.deref.ensures.value
    ∙ ap (λ (l : List (List ℕ × RenderError)). flat_map ill_typed_line c.in_ok-values.values.items ++ flat_map render_line l) c.deref-2.ensures.value)
    (counted c.in_ok-values.values c.is_empty-is_ill_typed.result c.is_empty-is_ill_typed.ensures)
    (counted c.in_ok-files.files c.is_empty.result c.is_empty.ensures) c.in_ok-files.ensures
