use Rattle.std.proofs.Common.{map}
use Rattle.toml.specs.View.{members_view, table_view}
use Rattle.toml_values.specs.Document.{named}
use Rattle.release_file.specs.Checks.{known_check}
use Rattle.release_file.proofs.LeftChecks.{Decides}
use Rattle.release_file.proofs.transitions.check_known.Given as goal

abbrev pub invariant-loop-name : goal.invariant-loop-name
invariant-loop-name l =
    Decides (map (known_check (table_view l.migrations)) (named (members_view l.name-iterator)))
    (map (known_check (table_view l.migrations)) (named (table_view l.table)))
