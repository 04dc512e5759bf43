use Rattle.key_names.proofs.Ascii.{IsUtf8-segment, ok_where}
use Rattle.template_eval.proofs.keys.last_name.Goals as goal

pub unwrap-requires : goal.unwrap-requires
unwrap-requires c = ok_where _ _ c.from_utf8-name.result c.from_utf8-name.ensures.cases (IsUtf8-segment c.last_segment.result.now c.last_segment.ensures.valid)
