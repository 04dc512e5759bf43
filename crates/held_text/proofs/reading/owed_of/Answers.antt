use Rattle.std.proofs.Common.{rules, ◌≡◌, true, is_some, ◌∙◌}
use Rattle.serde_json.specs.Find.{as_array}
use Rattle.serde_json.specs.View.{view}
use Rattle.held_text.proofs.OwedReadings.{owed_refused}
use Rattle.held_text.proofs.Readings.{err_reads}
use Rattle.held_text.proofs.reading.owed_of.Goals as goal

pub returns-in_err-key_list_of : goal.returns-in_err-key_list_of
returns-in_err-key_list_of c =
    let listed : is_some (as_array (view c.args.value)) ≡ true = search rules in
    err_reads _ _ _ _ c.from_residual.result c.from_residual.ensures.1
    (λ owed valid is e gives. gives ∙ owed_refused (view c.args.value) _ listed c.in_err-key_list_of.ensures owed valid is)
