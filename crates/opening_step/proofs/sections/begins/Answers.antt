use Rattle.std.proofs.Common.{arith, ◌<◌, length, ap, ◌∙◌}
use Rattle.std.specs.Str.{bytes_eq}
use Rattle.settings_tree.proofs.SettingKeys.{begins_with}
use Rattle.opening_step.proofs.sections.begins.Goals as goal

pub returns-then-len-gt0 : goal.returns-then-len-gt0
returns-then-len-gt0 c =
    let low : 0 < length c.args.key.now = omega (arith, c.if-len-gt0.true, c.len.ensures.count) in
    begins_with c.args.segment.now c.args.key.now c.eq.result low (c.eq.ensures ∙ ap (λ s. bytes_eq s c.args.segment.now) c.segment.ensures.bytes)
