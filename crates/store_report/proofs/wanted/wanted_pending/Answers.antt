use Rattle.std.proofs.Common.{◌≡◌, true, false, ◌∙◌}
use Rattle.std.proofs.lemmas.Result.{IfOk-weaker}
use Rattle.key_names.specs.Key.{is_prefix}
use Rattle.json_trees.specs.declared.pending.Pending.TheVariants.{Put, Gone}
use Rattle.settings_tree.specs.Content.{settings_key}
use Rattle.store_report.proofs.Wanting.{other_wants, setting_wants}
use Rattle.store_report.proofs.wanted.wanted_pending.Goals as goal

pub returns-then-not-is_setting : goal.returns-then-not-is_setting
returns-then-not-is_setting c =
    let other : is_prefix settings_key c.args.key.now ≡ false = cc in
    other_wants c.args.types.now c.args.key.now c.args.pending.now c.in_ok-from_str.field-0 c.in_ok-from_str.ensures other

pub returns-in-Put : goal.returns-in-Put
returns-in-Put c =
    let setting : is_prefix settings_key c.args.key.now ≡ true = cc in
    IfOk-weaker c.wanted_value.result _ _
    (λ w is. is ∙ setting_wants c.args.types.now c.args.key.now c.args.pending.now (Put c.in-Put.value) setting c.in-Put.is) c.wanted_value.ensures

pub returns-in-Gone : goal.returns-in-Gone
returns-in-Gone c =
    let setting : is_prefix settings_key c.args.key.now ≡ true = cc in
    IfOk-weaker c.wanted_gone.result _ _ (λ w is. is ∙ setting_wants c.args.types.now c.args.key.now c.args.pending.now Gone setting c.in-Gone.is)
    c.wanted_gone.ensures
