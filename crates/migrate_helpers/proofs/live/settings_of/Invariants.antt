use Rattle.std.proofs.Common.{◌≡◌}
use Rattle.migrate_helpers.specs.Settings.{setting_of, settings}
use Rattle.migrate_helpers.specs.Laws.MappedMaps.{with_mapped}
use Rattle.migrate_helpers.proofs.live.settings_of.Given as goal

abbrev pub invariant-loop-key : goal.invariant-loop-key
invariant-loop-key l = with_mapped (setting_of l.content.weak) l.settings l.key-iterator ≡ settings l.content
