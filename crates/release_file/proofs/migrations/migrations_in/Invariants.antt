use Rattle.std.proofs.Common.{map}
use Rattle.toml.specs.View.{members_view, table_view}
use Rattle.toml_values.specs.Document.{named}
use Rattle.release_file.specs.Checks.{migration}
use Rattle.release_file.proofs.LeftChecks.{Decides}
use Rattle.release_file.proofs.Entries.{MigrationsGoOn}
use Rattle.release_file.proofs.migrations.migrations_in.Given as goal

abbrev pub invariant-loop-name : goal.invariant-loop-name
invariant-loop-name l =
    Decides (map migration (named (members_view l.name-iterator))) (map migration (named (table_view l.table)))
    × MigrationsGoOn (members_view l.name-iterator) (table_view l.table) l.migrations.items
