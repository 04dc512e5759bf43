-- A text has one fault at most, and none where it is a model's.
use Rattle.std.proofs.Common.{◌≡◌, ℕ, List, Option, Some, None, sym, ap, ◌∙◌, subst}
use Rattle.toml.specs.Data.{Members}
use Rattle.model_file.specs.Rows.{row_texts}
use Rattle.model_file.specs.Checks.{checks, kind_of, path_of, Check}
use Rattle.model_file.specs.Model.{Spells, IsFault, HasFault, printed_path}
use Rattle.toml_values.specs.Document.{table_of}
use Rattle.model_file.specs.declared.model.Model.{Model}
use Rattle.model_file.specs.declared.model_error.ModelKind.{ModelKind}
use Rattle.model_file.proofs.Checking.{one_fails, none_fails}

-- One fault alone is a text's.
pub one_fault : (text : List ℕ) (kind other : ModelKind) (at there : List ℕ) → IsFault text kind at → IsFault text other there → (kind ≡ other) × (at ≡ there)
one_fault text kind other at there = by (table_of text)
  where
    by : (o : Option Members) → HasFault o kind at → HasFault o other there → (kind ≡ other) × (at ≡ there)
    by None one two = (one.0 ∙ sym two.0, one.1 ∙ sym two.1)
    by (Some document) one two =
        let same : one.0 ≡ two.0 = one_fails (row_texts document) (checks document) one.0 two.0 one.1 two.1 in
        (one.2 ∙ ap kind_of same ∙ sym two.2, one.3 ∙ ap (λ (c : Check). printed_path (path_of c)) same ∙ sym two.3)

-- The text of a model has none.
pub no_fault : (text : List ℕ) (model : Model) (kind : ModelKind) (at : List ℕ) → Spells text model → IsFault text kind at → ⊥
no_fault text model kind at spells fault =
    let here : HasFault (Some spells.document) kind at = subst (λ (o : Option Members). HasFault o kind at) spells.read fault in
    none_fails (row_texts spells.document) (checks spells.document) here.0 spells.hold here.1
