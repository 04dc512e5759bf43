use Rattle.std.proofs.Common.{map}
use Rattle.toml.specs.View.{members_view, table_view}
use Rattle.setting_generators.specs.Generators.{seen}
use Rattle.setting_generators.proofs.Entries.{Reading}
use Rattle.setting_generators.proofs.table.listed.Given as goal

abbrev pub invariant-loop-name : goal.invariant-loop-name
invariant-loop-name l = Reading l.types (table_view l.table) (members_view l.name-iterator) (map seen l.listed.items) l.keys
