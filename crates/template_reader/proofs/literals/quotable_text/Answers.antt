use Rattle.key_names.proofs.Ascii.{quotable_text, ok_where}
use Rattle.template_reader.proofs.literals.quotable_text.Goals as goal

pub unwrap-requires : goal.unwrap-requires
unwrap-requires c = ok_where _ _ c.from_utf8.result c.from_utf8.ensures.cases (quotable_text c.args.bytes.now c.requires)
