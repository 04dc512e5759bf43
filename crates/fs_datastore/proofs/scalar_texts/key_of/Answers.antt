use Rattle.std.proofs.Common.{◌∙◌}
use Rattle.fs_datastore.proofs.KeyTexts.{texts_one, key_is, no_key}
use Rattle.fs_datastore.proofs.scalar_texts.key_of.Goals as goal

pub returns-in-Ok : goal.returns-in-Ok
returns-in-Ok c = λ key valid is.
    key_is c.read.result c.in-Ok.key key c.in-Ok.is (c.read.ensures.exact_key key
    (texts_one c.args.item.now c.in-Text.text c.as_bytes.result.now key c.in-Text.is (c.as_bytes.ensures.value ∙ c.as_str.ensures) valid is))

pub returns-in_default-kind : goal.returns-in_default-kind
returns-in_default-kind c = λ key valid is.
    no_key c.read.result c.in-Err.fault key c.in-Err.is c.in_default-kind.not-Memory
    (c.read.ensures.exact_key key (texts_one c.args.item.now c.in-Text.text c.as_bytes.result.now key c.in-Text.is
    (c.as_bytes.ensures.value ∙ c.as_str.ensures) valid is))
