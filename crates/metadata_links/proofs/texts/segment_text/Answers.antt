use Rattle.key_names.proofs.Ascii.{IsUtf8-segment, ok_where}
use Rattle.metadata_links.proofs.texts.segment_text.Goals as goal

pub unwrap-text-requires : goal.unwrap-text-requires
unwrap-text-requires c = ok_where _ _ c.from_utf8.result c.from_utf8.ensures.cases (IsUtf8-segment c.args.segment.now c.requires)
