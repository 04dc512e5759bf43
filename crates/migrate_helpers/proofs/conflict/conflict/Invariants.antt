use Rattle.std.proofs.Common.{◌≡◌}
use Rattle.std.specs.Option.{option_copied}
use Rattle.settings_tree.specs.Walks.{entries_past}
use Rattle.migrate_helpers.specs.Conflict.{conflict}
use Rattle.migrate_helpers.specs.Laws.Conflicts.{conflict_from}
use Rattle.migrate_helpers.proofs.conflict.conflict.Given as goal

abbrev pub invariant-loop-key : goal.invariant-loop-key
invariant-loop-key g l = record {
  rest : l.key-iterator ≡ entries_past l.map (option_copied l.before);
  left : conflict_from l.map (option_copied l.before) ≡ conflict l.map;
}
