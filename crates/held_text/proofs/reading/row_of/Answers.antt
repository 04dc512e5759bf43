use Rattle.std.proofs.Common.{◌∙◌, ap}
use Rattle.serde_json.specs.Data.{string}
use Rattle.json_trees.specs.Scalar.{scalar_data}
use Rattle.json_trees.specs.Tree.{scalar_leaf}
use Rattle.held_text.specs.HeldText.{key_data}
use Rattle.held_text.proofs.PartReadings.{leaf_memory, leaf_same, row_is}
use Rattle.held_text.proofs.Readings.{err_reads, no_text, texted}
use Rattle.held_text.specs.Refusals.{of_tree_error}
use Rattle.held_text.proofs.reading.row_of.Goals as goal

pub returns-in_err-key : goal.returns-in_err-key
returns-in_err-key c =
    err_reads _ _ _ _ c.from_residual.result c.from_residual.ensures.1
    (λ x valid is e gives. absurd (c.in_err-key.ensures.err (key_data x.0) (string x.1) (scalar_data x.2) is))

pub returns-in_err-key-2 : goal.returns-in_err-key-2
returns-in_err-key-2 c =
    err_reads _ _ _ _ c.from_residual-in_err-key-2.result c.from_residual-in_err-key-2.ensures.1
    (λ x valid is e gives. gives ∙ c.in_err-key-2.ensures.finds x.0 valid.key (c.in_ok-key.ensures.ok (key_data x.0) (string x.1) (scalar_data x.2) is).0)

pub returns-in_err-string_of : goal.returns-in_err-string_of
returns-in_err-string_of c =
    err_reads _ _ _ _ c.from_residual-in_err-string_of.result c.from_residual-in_err-string_of.ensures.1
    (λ x valid is e gives. absurd (no_text _ x.1 c.in_err-string_of.ensures.err (c.in_ok-key.ensures.ok (key_data x.0) (string x.1) (scalar_data x.2) is).1))

pub returns-in_err-value : goal.returns-in_err-value
returns-in_err-value c =
    err_reads _ _ _ _ c.from_residual-in_err-value.result c.from_residual-in_err-value.ensures.1
    (λ x valid is e gives.
    gives ∙ ap of_tree_error (leaf_memory scalar_leaf scalar_data _ x.2 _ valid.value
    (c.in_ok-key.ensures.ok (key_data x.0) (string x.1) (scalar_data x.2) is).2 c.in_err-value.ensures.err))

pub returns : goal.returns
returns c = record {
  finds = λ x valid is.
      let all = c.in_ok-key.ensures.ok (key_data x.0) (string x.1) (scalar_data x.2) is in
      row_is _ _ _ x (c.in_ok-key-2.ensures.finds x.0 valid.key all.0) (c.of-name.ensures ∙ texted _ _ x.1 c.in_ok-string_of.ensures.ok all.1)
      (leaf_same scalar_leaf scalar_data _ x.2 _ valid.value all.2 c.in_ok-value.ensures.ok);
}
