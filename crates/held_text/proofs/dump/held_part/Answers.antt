use Rattle.std.proofs.Common.{◌∙◌, ap, sym}
use Rattle.std.specs.Prelude.{string_bytes}
use Rattle.serde_json.specs.View.{view}
use Rattle.held_text.specs.HeldText.{held_text}
use Rattle.held_text.proofs.DumpReadings.{held_value, held_prints, none_held}
use Rattle.held_text.proofs.HeldReadings.{err_read}
use Rattle.held_text.proofs.dump.held_part.Goals as goal

pub returns-clause-ok : goal.returns-clause-ok
returns-clause-ok c =
    held_value (view c.args.value) (string_bytes c.in_ok-text.text) c.in_ok-held.held c.in_ok-text.ensures.reads_back c.in_ok-expect_text.ensures.valid
    (c.in_ok-expect_text.ensures.ok ∙ c.as_bytes.ensures.value ∙ c.as_str.ensures.value)

pub returns-in_err-expect_text-clause-exact : goal.returns-in_err-expect_text-clause-exact
returns-in_err-expect_text-clause-exact c =
    λ h is same. err_read h _ c.from_residual-in_err-expect_text.result c.from_residual-in_err-expect_text.ensures.1
    (λ e gives wrong. c.in_err-expect_text.ensures.err (λ memory. wrong (gives ∙ memory))
    (ap held_text (c.in_ok-held.ensures.finds h is same)
    ∙ held_prints (view c.args.value) (string_bytes c.in_ok-text.text) h c.in_ok-text.ensures.text is same
    ∙ sym (c.as_bytes.ensures.value ∙ c.as_str.ensures.value)))

pub returns-in_err-expect_text-clause-err : goal.returns-in_err-expect_text-clause-err
returns-in_err-expect_text-clause-err c = none_held (view c.args.value) _ (returns-in_err-expect_text-clause-exact c)
