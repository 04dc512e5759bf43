use Rattle.std.proofs.Common.{sym, ◌∙◌}
use Rattle.std.proofs.lemmas.Result.{IfOk-weaker}
use Rattle.api_core.proofs.Settings.{below_setting, below_other, key_some}
use Rattle.api_core.proofs.live_values.settings_below.Goals as goal

pub returns-then-not-is_setting : goal.returns-then-not-is_setting
returns-then-not-is_setting c = c.new.ensures.items
    ∙ sym (below_other c.args.live.now.values c.args.prefix.now (key_some c.args.prefix.now c.len.ensures.valid)
    (sym c.is_setting.ensures ∙ c.if-not-is_setting.true))

pub returns : goal.returns
returns c = IfOk-weaker c.below.result _ _
    (λ pairs is. is ∙ below_setting c.args.live.now.values c.args.prefix.now (key_some c.args.prefix.now c.len.ensures.valid) (sym c.is_setting.ensures
    ∙ c.if-not-is_setting.false)) c.below.ensures.values
