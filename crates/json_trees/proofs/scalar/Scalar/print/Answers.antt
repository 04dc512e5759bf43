use Rattle.std.proofs.Common.{◌++◌, ap, ◌∙◌}
use Rattle.json.specs.Print.{print}
use Rattle.serde_json.proofs.Texts.{print-outline}
use Rattle.json_trees.specs.Scalar.{scalar_data}
use Rattle.json_trees.specs.Written.{data_tokens}
use Rattle.json_trees.proofs.Scalars.{scalar_read-tokens}
use Rattle.json_trees.proofs.scalar.Scalar.print.Goals as goal

pub returns-clause-text : goal.returns-clause-text
returns-clause-text c =
    let s = c.args.self.now in
    let written = c.in_ok-write_scalar.ensures.tokens ∙ ap (λ ts. ts ++ data_tokens (scalar_data s)) c.new-writer.ensures.tokens in
    c.text_of.ensures.text ∙ ap print written ∙ print-outline (scalar_data s)

pub returns-clause-reads_back : goal.returns-clause-reads_back
returns-clause-reads_back c =
    let s = c.args.self.now in
    let written = c.in_ok-write_scalar.ensures.tokens ∙ ap (λ ts. ts ++ data_tokens (scalar_data s)) c.new-writer.ensures.tokens in
    scalar_read-tokens s c.text_of.result c.in_ok-write_scalar.ensures.in_range c.text_of.ensures.utf8 (c.text_of.ensures.reads_back ∙ written)
