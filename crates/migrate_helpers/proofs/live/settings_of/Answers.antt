use Rattle.std.proofs.Common.{rules, ◌≡◌, ◌∙◌, ap}
use Rattle.std.specs.FinMap.{entries, insert}
use Rattle.std.specs.List.{list_any}
use Rattle.std.specs.Ordering.{eq_by_cmp}
use Rattle.key_names.specs.Order.{key_cmp}
use Rattle.migrate_helpers.specs.declared.setting.Setting.{Setting}
use Rattle.migrate_helpers.specs.Settings.{setting_of}
use Rattle.migrate_helpers.specs.Laws.MappedMaps.{mapped_start, mapped_next, mapped_end}
use Rattle.migrate_helpers.proofs.Weakness.{same_setting}
use Rattle.migrate_helpers.proofs.WeakRightly.{rightly_made}
use Rattle.migrate_helpers.proofs.live.settings_of.Goals as goal

pub loop-key-init : goal.loop-key-init
loop-key-init c =
    let all : c.into_iter-key-iterator.result ≡ entries c.args.content.now.values = search rules in
    mapped_start (setting_of c.args.content.now.weak) c.args.content.now.values _ c.new-settings.result all c.new-settings.ensures

pub loop-key-preserved : goal.loop-key-preserved
loop-key-preserved c =
    let setting : Setting = record { value = c.in_ok-copy.field-0; weak = c.contains.result } in
    mapped_next (setting_of c.args.content.now.weak) _ _ c.in-Some.key.now c.in-Some.value.now setting c.loop-key.settings c.put.new.self _
    c.in-Some.ensures.steps c.loop-key.invariant
    (c.in_ok-put.ensures.ok ∙ ap (λ k. insert c.loop-key.settings k setting) c.in_ok-copy-2.ensures)
    (same_setting _ _ _ _ c.in_ok-copy.ensures (c.contains.ensures ∙ ap (list_any (eq_by_cmp key_cmp c.in-Some.key.now)) c.weak-weak.ensures.weak))

pub returns-clause-settings : goal.returns-clause-settings
returns-clause-settings c = mapped_end (setting_of c.args.content.now.weak) c.loop-key.key-iterator c.loop-key.settings _ (search rules) c.loop-key.invariant

pub returns-clause-weak : goal.returns-clause-weak
returns-clause-weak c = rightly_made c.args.content.now c.loop-key.settings c.weak-weak.ensures.valid
    (mapped_end (setting_of c.args.content.now.weak) c.loop-key.key-iterator c.loop-key.settings _ (search rules) c.loop-key.invariant)
