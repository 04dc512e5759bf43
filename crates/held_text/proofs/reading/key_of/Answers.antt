use Rattle.std.proofs.Common.{List, ℕ, sym, ◌∙◌, subst, ap}
use Rattle.key_names.specs.Spelling.{SpellsKey}
use Rattle.serde_json.specs.View.{view}
use Rattle.held_text.specs.HeldText.{key_data}
use Rattle.key_names.proofs.SpelledKeys.{printed_key}
use Rattle.held_text.proofs.Readings.{texted, err_reads}
use Rattle.held_text.specs.Refusals.{of_key_fault}
use Rattle.held_text.proofs.reading.key_of.Goals as goal

pub returns : goal.returns
returns c = record {
  finds = λ key valid is.
      c.in_ok-read.ensures.exact_key key (subst (λ (t : List ℕ). SpellsKey t key) (sym (c.as_bytes.ensures.value ∙ texted _ _ _ c.in_ok-text.ensures.ok is))
      (printed_key key valid));
}

pub returns-in_err-read : goal.returns-in_err-read
returns-in_err-read c =
    err_reads _ key_data (view c.args.value) _ c.from_residual-in_err-read.result c.from_residual-in_err-read.ensures.1
    (λ key valid is e gives. gives ∙ ap of_key_fault (c.in_err-read.ensures.exact_key key
    (subst (λ (t : List ℕ). SpellsKey t key) (sym (c.as_bytes.ensures.value ∙ texted _ _ _ c.in_ok-text.ensures.ok is)) (printed_key key valid))))
