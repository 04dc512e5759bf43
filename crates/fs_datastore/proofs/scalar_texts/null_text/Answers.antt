use Rattle.std.proofs.Common.{◌++◌, ap, ◌∙◌}
use Rattle.json.specs.Print.{print}
use Rattle.serde_json.specs.Data.{null}
use Rattle.serde_json.proofs.Texts.{print-outline}
use Rattle.json_trees.specs.Written.{data_tokens}
use Rattle.fs_datastore.proofs.KeyTexts.{null_read}
use Rattle.fs_datastore.proofs.scalar_texts.null_text.Goals as goal

pub returns-clause-text : goal.returns-clause-text
returns-clause-text c = c.text_of.ensures.text ∙ ap print (c.in_ok-null.ensures.ok ∙ ap (λ ts. ts ++ data_tokens null) c.new-writer.ensures.tokens)
    ∙ print-outline null

pub returns-clause-reads : goal.returns-clause-reads
returns-clause-reads c = null_read c.text_of.result c.text_of.ensures.utf8
    (c.text_of.ensures.reads_back ∙ c.in_ok-null.ensures.ok ∙ ap (λ ts. ts ++ data_tokens null) c.new-writer.ensures.tokens)
