use Rattle.std.proofs.Common.{arith, ◌<◌, length, slice_index_or, [], codes, ap, ◌∙◌}
use Rattle.std.specs.Str.{bytes_eq}
use Rattle.settings_tree.proofs.SettingKeys.{begins_with}
use Rattle.settings_tree.proofs.setting.is_setting.Goals as goal

pub returns-then-len-gt0 : goal.returns-then-len-gt0
returns-then-len-gt0 c =
    let low : 0 < length c.args.key.now = omega (arith, c.if-len-gt0.true, c.len.ensures.count) in
    begins_with (codes "settings") c.args.key.now c.eq.result low (c.eq.ensures ∙ ap (λ s. bytes_eq s c.as_slice.result.now) c.segment.ensures.bytes
    ∙ ap (bytes_eq (slice_index_or c.args.key.now 0 [])) c.as_slice.ensures)
