use Rattle.std.proofs.Common.{◌≡◌, ◌<◌, ℕ, List, [], ◌∷◌, length, get_or, Err, sym, ◌∙◌, subst}
use Rattle.std.specs.Prelude.{codes}
use Rattle.std.proofs.lemmas.Result.{err_from_is_err_and}
use Rattle.toml.specs.View.{table_view}
use Rattle.typed_settings.specs.Row.{IsTableOf, IsFirstBad, IsLeastMeeting}
use Rattle.typed_settings.specs.declared.rows_error.RowsError.TheVariants as error
use Rattle.model_file.specs.Checks.{table_check, row_checks, row_path}
use Rattle.model_file.specs.Refused.{IsAt}
use Rattle.model_file.specs.Rows.{row_texts}
use Rattle.model_file.specs.declared.model_error.ModelKind.TheVariants.{BadRow, RowsMeet}
use Rattle.model_file.proofs.Checking.{refuses_before}
use Rattle.model_file.proofs.RowChecks.{table_passes, bad_refuses, meeting_refuses, meeting_within, types_refuses}
use Rattle.model_file.proofs.types_section.types_of.Goals as goal

abbrev Texts : Type 0
Texts = List (List ℕ × List ℕ)

pub returns-in_err-texts-clause-refused : goal.returns-in_err-texts-clause-refused
returns-in_err-texts-clause-refused c =
    let document = table_view c.args.document.now in
    let p = err_from_is_err_and c.from_residual.result c.from_residual.ensures.1 in
    λ rows. rw (p.1, p.2) (refuses_before rows (table_check (codes "types") document ∷ []) (row_checks (row_texts document)) _
    (c.in_err-texts.ensures.refused rows))

pub returns-in-Ok-clause-passes : goal.returns-in-Ok-clause-passes
returns-in-Ok-clause-passes c =
    let document = table_view c.args.document.now in
    let texts : c.deref.result.now ≡ row_texts document = c.deref.ensures.value ∙ c.in_ok-texts.ensures.texts in
    λ rows. (
      (c.in_ok-texts.ensures.passes rows).0,
      table_passes rows (row_texts document) c.in-Ok.types
          (subst (λ (t : Texts). IsTableOf t c.in-Ok.types) texts c.in-Ok.ensures.table),
    )

pub at_row-requires : goal.at_row-requires
at_row-requires c =
    let index = c.in-Err-BadRow.index in
    let is : c.of_rows.result ≡ Err (error.BadRow index) = cc in
    let bad : IsFirstBad c.deref.result.now index = c.of_rows.ensures.fault (error.BadRow index) is (λ e. absurd (cc)) in
    subst (λ (t : Texts). index < length t) (c.deref.ensures.value ∙ sym c.deref-in-Err-BadRow.ensures.value) bad.within

pub returns-in-Err-BadRow-clause-refused : goal.returns-in-Err-BadRow-clause-refused
returns-in-Err-BadRow-clause-refused c =
    let document = table_view c.args.document.now in
    let index = c.in-Err-BadRow.index in
    let is : c.of_rows.result ≡ Err (error.BadRow index) = cc in
    let bad : IsFirstBad c.deref.result.now index = c.of_rows.ensures.fault (error.BadRow index) is (λ e. absurd (cc)) in
    let first : IsFirstBad (row_texts document) index = subst (λ (t : Texts). IsFirstBad t index) (c.deref.ensures.value ∙ c.in_ok-texts.ensures.texts) bad in
    let at : IsAt BadRow (row_path (get_or (row_texts document) index ([], []))) c.at_row.result =
    subst (λ (t : Texts). IsAt BadRow (row_path (get_or t index ([], []))) c.at_row.result) (c.deref-in-Err-BadRow.ensures.value ∙ c.in_ok-texts.ensures.texts)
    c.at_row.ensures in
    λ rows. types_refuses rows document c.at_row.result (c.in_ok-texts.ensures.passes rows)
    (bad_refuses rows (row_texts document) index c.at_row.result first at)

pub at_row-requires-in-Err-Meet : goal.at_row-requires-in-Err-Meet
at_row-requires-in-Err-Meet c =
    let second = c.in-Err-Meet.second in
    let is : c.of_rows.result ≡ Err (error.Meet c.in-Err-Meet.field-0-0 second) = cc in
    let meeting : IsLeastMeeting c.deref.result.now c.in-Err-Meet.field-0-0 second =
    c.of_rows.ensures.fault (error.Meet c.in-Err-Meet.field-0-0 second) is (λ e. absurd (cc)) in
    subst (λ (t : Texts). second < length t) (c.deref.ensures.value ∙ sym c.deref-in-Err-Meet.ensures.value)
    (meeting_within c.deref.result.now c.in-Err-Meet.field-0-0 second meeting)

pub returns-in-Err-Meet-clause-refused : goal.returns-in-Err-Meet-clause-refused
returns-in-Err-Meet-clause-refused c =
    let document = table_view c.args.document.now in
    let first = c.in-Err-Meet.field-0-0 in
    let second = c.in-Err-Meet.second in
    let is : c.of_rows.result ≡ Err (error.Meet first second) = cc in
    let found : IsLeastMeeting c.deref.result.now first second = c.of_rows.ensures.fault (error.Meet first second) is (λ e. absurd (cc)) in
    let meeting : IsLeastMeeting (row_texts document) first second = subst (λ (t : Texts). IsLeastMeeting t first second)
    (c.deref.ensures.value ∙ c.in_ok-texts.ensures.texts) found in
    let at : IsAt RowsMeet (row_path (get_or (row_texts document) second ([], []))) c.at_row-in-Err-Meet.result =
    subst (λ (t : Texts). IsAt RowsMeet (row_path (get_or t second ([], []))) c.at_row-in-Err-Meet.result)
    (c.deref-in-Err-Meet.ensures.value ∙ c.in_ok-texts.ensures.texts) c.at_row-in-Err-Meet.ensures in
    λ rows. types_refuses rows document c.at_row-in-Err-Meet.result (c.in_ok-texts.ensures.passes rows)
    (meeting_refuses rows (row_texts document) first second c.at_row-in-Err-Meet.result meeting at)
