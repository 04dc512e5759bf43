use Rattle.std.proofs.Common.{sym, subst}
use Rattle.std.specs.Prelude.{codes}
use Rattle.std.proofs.lemmas.Result.{err_from_is_err_and}
use Rattle.settings_tree.specs.Content.{Contents}
use Rattle.toml.specs.View.{table_view}
use Rattle.model_file.specs.Checks.{section_checks, metadata_checks}
use Rattle.model_file.specs.Model.{AreTyped}
use Rattle.model_file.specs.Rows.{row_texts}
use Rattle.model_file.proofs.KnownKeys.{table_free, none_typed}
use Rattle.model_file.proofs.Parts.{all_pass, first_refuses, second_refuses, third_refuses, fourth_refuses}
use Rattle.model_file.proofs.model.content_of.Goals as goal

pub put_section-requires-clause-free : goal.put_section-requires-clause-free
put_section-requires-clause-free c = table_free (row_texts (table_view c.args.document.now)) c.args.types.now c.requires

pub put_section-requires-clause-typed : goal.put_section-requires-clause-typed
put_section-requires-clause-typed c = subst (λ (k : Contents). AreTyped c.args.types.now k.values) (sym c.new-content.ensures) (none_typed c.args.types.now)

pub returns-in_err-put_section-clause-refused : goal.returns-in_err-put_section-clause-refused
returns-in_err-put_section-clause-refused c =
    let document = table_view c.args.document.now in
    let rows = row_texts document in
    let settings = section_checks (codes "settings") document in
    let services = section_checks (codes "services") document in
    let files = section_checks (codes "configuration-files") document in
    let metadata = metadata_checks document in
    let p = err_from_is_err_and c.from_residual.result c.from_residual.ensures.1 in
    rw (p.1, p.2) (first_refuses rows settings services files metadata _ (c.in_err-put_section.ensures.refused rows c.requires))

pub put_section-requires-2-clause-free : goal.put_section-requires-2-clause-free
put_section-requires-2-clause-free c = table_free (row_texts (table_view c.args.document.now)) c.args.types.now c.requires

pub returns-in_err-put_section-2-clause-refused : goal.returns-in_err-put_section-2-clause-refused
returns-in_err-put_section-2-clause-refused c =
    let document = table_view c.args.document.now in
    let rows = row_texts document in
    let settings = section_checks (codes "settings") document in
    let services = section_checks (codes "services") document in
    let files = section_checks (codes "configuration-files") document in
    let metadata = metadata_checks document in
    let p = err_from_is_err_and c.from_residual-in_err-put_section-2.result c.from_residual-in_err-put_section-2.ensures.1 in
    rw (p.1, p.2) (second_refuses rows settings services files metadata _ (c.in_ok-put_section.ensures.passes rows c.requires)
    (c.in_err-put_section-2.ensures.refused rows c.requires))

pub put_section-requires-3-clause-free : goal.put_section-requires-3-clause-free
put_section-requires-3-clause-free c = table_free (row_texts (table_view c.args.document.now)) c.args.types.now c.requires

pub returns-in_err-put_section-3-clause-refused : goal.returns-in_err-put_section-3-clause-refused
returns-in_err-put_section-3-clause-refused c =
    let document = table_view c.args.document.now in
    let rows = row_texts document in
    let settings = section_checks (codes "settings") document in
    let services = section_checks (codes "services") document in
    let files = section_checks (codes "configuration-files") document in
    let metadata = metadata_checks document in
    let p = err_from_is_err_and c.from_residual-in_err-put_section-3.result c.from_residual-in_err-put_section-3.ensures.1 in
    rw (p.1, p.2) (third_refuses rows settings services files metadata _ (c.in_ok-put_section.ensures.passes rows c.requires)
    (c.in_ok-put_section-2.ensures.passes rows c.requires) (c.in_err-put_section-3.ensures.refused rows c.requires))

pub returns-in_err-put_metadata-clause-refused : goal.returns-in_err-put_metadata-clause-refused
returns-in_err-put_metadata-clause-refused c =
    let document = table_view c.args.document.now in
    let rows = row_texts document in
    let settings = section_checks (codes "settings") document in
    let services = section_checks (codes "services") document in
    let files = section_checks (codes "configuration-files") document in
    let metadata = metadata_checks document in
    let p = err_from_is_err_and c.from_residual-in_err-put_metadata.result c.from_residual-in_err-put_metadata.ensures.1 in
    rw (p.1, p.2) (fourth_refuses rows settings services files metadata _ (c.in_ok-put_section.ensures.passes rows c.requires)
    (c.in_ok-put_section-2.ensures.passes rows c.requires) (c.in_ok-put_section-3.ensures.passes rows c.requires)
    (c.in_err-put_metadata.ensures.refused rows))

pub returns-clause-passes : goal.returns-clause-passes
returns-clause-passes c =
    let document = table_view c.args.document.now in
    let rows = row_texts document in
    let settings = section_checks (codes "settings") document in
    let services = section_checks (codes "services") document in
    let files = section_checks (codes "configuration-files") document in
    let metadata = metadata_checks document in
    all_pass rows settings services files metadata (c.in_ok-put_section.ensures.passes rows c.requires) (c.in_ok-put_section-2.ensures.passes rows c.requires)
    (c.in_ok-put_section-3.ensures.passes rows c.requires) (c.in_ok-put_metadata.ensures.passes rows)

pub returns-clause-free : goal.returns-clause-free
returns-clause-free c = table_free (row_texts (table_view c.args.document.now)) c.args.types.now c.requires

pub returns-clause-typed : goal.returns-clause-typed
returns-clause-typed c = subst (λ (k : Contents). AreTyped c.args.types.now k.values) (sym c.in_ok-put_metadata.ensures.put) c.in_ok-put_section-3.ensures.typed
