use Rattle.std.proofs.Common.{◌++◌, ap, ◌∙◌, subst}
use Rattle.std.specs.Str.{IsUtf8}
use Rattle.json.specs.Print.{print}
use Rattle.serde_json.proofs.Texts.{print-outline}
use Rattle.json_trees.specs.Written.{data_tokens}
use Rattle.held_text.specs.HeldText.{held_data}
use Rattle.held_text.proofs.text.HeldHeldText.print.Goals as goal

pub returns-clause-text : goal.returns-clause-text
returns-clause-text c =
    let d = held_data c.args.self.now in
    c.text_of.ensures.text ∙ ap print (c.in_ok-write_held.ensures.wrote.tokens ∙ ap (λ ts. ts ++ data_tokens d) c.new-writer.ensures.tokens) ∙ print-outline d

pub returns-clause-valid : goal.returns-clause-valid
returns-clause-valid c =
    let d = held_data c.args.self.now in
    c.in_ok-write_held.ensures.valid
    (subst IsUtf8 (c.text_of.ensures.text ∙ ap print (c.in_ok-write_held.ensures.wrote.tokens ∙ ap (λ ts. ts ++ data_tokens d) c.new-writer.ensures.tokens)
    ∙ print-outline d) c.text_of.ensures.utf8)
