use Rattle.std.proofs.Common.{◌≡◌, ◌∙◌, Some, option_map, sym, ap}
use Rattle.serde_json.specs.View.{view}
use Rattle.json_trees.specs.Json.{data_of}
use Rattle.held_text.specs.HeldText.{held_text}
use Rattle.held_text.proofs.HeldReadings.{unprinted, value_read, err_read}
use Rattle.held_text.proofs.Readings.{err_reads}
use Rattle.held_text.proofs.text.read_exactly.Goals as goal

pub returns-in_default-clause-exact : goal.returns-in_default-clause-exact
returns-in_default-clause-exact c = λ h is prints. absurd (unprinted c.args.text.now h (sym c.in_ok-value.ensures ∙ ap (option_map view) c.in_default.is) is
    prints)

pub returns-in_err-held-clause-exact : goal.returns-in_err-held-clause-exact
returns-in_err-held-clause-exact c =
    let read : data_of c.args.text.now ≡ Some (view c.in-Some.value) = sym c.in_ok-value.ensures ∙ ap (option_map view) c.in-Some.is in
    value_read c.args.text.now (view c.in-Some.value) _ read
    (err_reads _ _ _ _ c.from_residual-in_err-held.result c.from_residual-in_err-held.ensures.1
    (λ h valid is e gives. gives ∙ c.in_err-held.ensures.finds h valid is))

pub returns-in_err-expect_text-clause-exact : goal.returns-in_err-expect_text-clause-exact
returns-in_err-expect_text-clause-exact c =
    let read : data_of c.args.text.now ≡ Some (view c.in-Some.value) = sym c.in_ok-value.ensures ∙ ap (option_map view) c.in-Some.is in
    λ h is prints. err_read h _ c.from_residual-in_err-expect_text.result c.from_residual-in_err-expect_text.ensures.1
    (λ e gives wrong. c.in_err-expect_text.ensures.err (λ memory. wrong (gives ∙ memory))
    (ap held_text (value_read c.args.text.now (view c.in-Some.value) _ read c.in_ok-held.ensures h is prints) ∙ prints))

pub returns-clause-exact : goal.returns-clause-exact
returns-clause-exact c =
    let read : data_of c.args.text.now ≡ Some (view c.in-Some.value) = sym c.in_ok-value.ensures ∙ ap (option_map view) c.in-Some.is in
    value_read c.args.text.now (view c.in-Some.value) _ read c.in_ok-held.ensures
