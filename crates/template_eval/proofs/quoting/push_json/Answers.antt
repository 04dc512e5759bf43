use Rattle.std.proofs.Common.{◌++◌, ap, ◌∙◌, flat_map}
use Rattle.std.proofs.lemmas.Result.{on_ok_weaker}
use Rattle.json.specs.Print.{print}
use Rattle.serde_json.proofs.Texts.{print-outline}
use Rattle.json_trees.specs.Scalar.{scalar_data}
use Rattle.json_trees.specs.Written.{data_tokens}
use Rattle.template_eval.specs.Quoting.{escaped}
use Rattle.template_eval.specs.Views.{atom_value}
use Rattle.template_eval.proofs.quoting.push_json.Goals as goal

pub returns : goal.returns
returns c =
    let d = scalar_data (atom_value c.args.atom) in
    let written = c.in_ok-write_atom.ensures.tokens ∙ ap (λ ts. ts ++ data_tokens d) c.new-writer.ensures.tokens in
    on_ok_weaker c.push_written.result (λ e. e ∙ ap (λ t. c.args.out.now.items ++ flat_map escaped t) (ap print written ∙ print-outline d))
    c.push_written.ensures
