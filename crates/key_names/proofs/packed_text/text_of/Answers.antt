use Rattle.key_names.proofs.Ascii.{IsUtf8-segment, ok_where}
use Rattle.key_names.proofs.packed_text.text_of.Goals as goal

pub unwrap-requires : goal.unwrap-requires
unwrap-requires c = ok_where _ _ c.from_utf8.result c.from_utf8.ensures.cases (IsUtf8-segment c.args.segment.now c.requires)
