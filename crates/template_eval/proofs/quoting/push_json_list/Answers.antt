use Rattle.std.proofs.Common.{◌++◌, ap, ◌∙◌, flat_map}
use Rattle.std.proofs.lemmas.Result.{on_ok_weaker}
use Rattle.json.specs.Print.{print}
use Rattle.serde_json.proofs.Texts.{print-outline}
use Rattle.json_trees.specs.Scalar.{scalar_data}
use Rattle.json_trees.specs.Written.{data_tokens}
use Rattle.json_trees.specs.declared.scalar.Scalar.TheVariants.{List}
use Rattle.json_trees.proofs.Lists.{written_array}
use Rattle.template_eval.specs.Quoting.{escaped}
use Rattle.template_eval.proofs.quoting.push_json_list.Goals as goal

pub returns : goal.returns
returns c =
    let d = scalar_data (List c.args.items.now) in
    let written =
    written_array c.args.items.now _ _ _ _ c.in_ok-begin_array.ensures.ok c.in_ok-write_items.ensures.tokens c.in_ok-end_array.ensures.ok
    ∙ ap (λ ts. ts ++ data_tokens d) c.new-writer.ensures.tokens in
    on_ok_weaker c.push_written.result (λ e. e ∙ ap (λ t. c.args.out.now.items ++ flat_map escaped t) (ap print written ∙ print-outline d))
    c.push_written.ensures
