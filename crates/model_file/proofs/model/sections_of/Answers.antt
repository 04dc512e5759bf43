use Rattle.std.proofs.lemmas.Result.{err_from_is_err_and}
use Rattle.toml.specs.View.{table_view}
use Rattle.model_file.specs.Checks.{name_checks, os_checks, types_checks, content_checks}
use Rattle.model_file.specs.Rows.{row_texts}
use Rattle.model_file.proofs.Parts.{all_pass, first_refuses, second_refuses, third_refuses, fourth_refuses}
use Rattle.model_file.proofs.model.sections_of.Goals as goal

pub returns-in_err-check_names-clause-refused : goal.returns-in_err-check_names-clause-refused
returns-in_err-check_names-clause-refused c =
    let document = table_view c.args.document.now in
    let rows = row_texts document in
    let p = err_from_is_err_and c.from_residual.result c.from_residual.ensures.1 in
    rw (p.1, p.2) (first_refuses rows (name_checks document) (os_checks document) (types_checks document) (content_checks document) _
    (c.in_err-check_names.ensures.refused rows))

pub returns-in_err-os-clause-refused : goal.returns-in_err-os-clause-refused
returns-in_err-os-clause-refused c =
    let document = table_view c.args.document.now in
    let rows = row_texts document in
    let p = err_from_is_err_and c.from_residual-in_err-os.result c.from_residual-in_err-os.ensures.1 in
    rw (p.1, p.2) (second_refuses rows (name_checks document) (os_checks document) (types_checks document) (content_checks document) _
    (c.in_ok-check_names.ensures.passes rows) (c.in_err-os.ensures.refused rows))

pub returns-in_err-types-clause-refused : goal.returns-in_err-types-clause-refused
returns-in_err-types-clause-refused c =
    let document = table_view c.args.document.now in
    let rows = row_texts document in
    let p = err_from_is_err_and c.from_residual-in_err-types.result c.from_residual-in_err-types.ensures.1 in
    rw (p.1, p.2) (third_refuses rows (name_checks document) (os_checks document) (types_checks document) (content_checks document) _
    (c.in_ok-check_names.ensures.passes rows) (c.in_ok-os.ensures.passes rows) (c.in_err-types.ensures.refused rows))

pub returns-in_err-content-clause-refused : goal.returns-in_err-content-clause-refused
returns-in_err-content-clause-refused c =
    let document = table_view c.args.document.now in
    let rows = row_texts document in
    let p = err_from_is_err_and c.from_residual-in_err-content.result c.from_residual-in_err-content.ensures.1 in
    rw (p.1, p.2) (fourth_refuses rows (name_checks document) (os_checks document) (types_checks document) (content_checks document) _
    (c.in_ok-check_names.ensures.passes rows) (c.in_ok-os.ensures.passes rows) (c.in_ok-types.ensures.passes rows) c.in_err-content.ensures.refused)

pub returns-clause-passes : goal.returns-clause-passes
returns-clause-passes c =
    let document = table_view c.args.document.now in
    let rows = row_texts document in
    all_pass rows (name_checks document) (os_checks document) (types_checks document) (content_checks document) (c.in_ok-check_names.ensures.passes rows)
    (c.in_ok-os.ensures.passes rows) (c.in_ok-types.ensures.passes rows) c.in_ok-content.ensures.passes
