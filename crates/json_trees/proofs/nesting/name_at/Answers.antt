use Rattle.key_names.proofs.Ascii.{IsUtf8-segment, ok_where}
use Rattle.json_trees.proofs.nesting.name_at.Goals as goal

pub unwrap-requires : goal.unwrap-requires
unwrap-requires c = ok_where _ _ c.from_utf8-name.result c.from_utf8-name.ensures.cases (IsUtf8-segment c.segment.result.now c.segment.ensures.valid)
