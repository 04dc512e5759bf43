use Rattle.std.proofs.Common.{map}
use Rattle.toml.specs.View.{members_view, table_view}
use Rattle.toml_values.specs.Document.{named}
use Rattle.release_file.specs.Checks.{transition}
use Rattle.release_file.proofs.LeftChecks.{Decides}
use Rattle.release_file.proofs.Entries.{TransitionsGoOn}
use Rattle.release_file.proofs.transitions.transitions_in.Given as goal

abbrev pub invariant-loop-name : goal.invariant-loop-name
invariant-loop-name l =
    Decides (map transition (named (members_view l.name-iterator))) (map transition (named (table_view l.table)))
    × TransitionsGoOn (members_view l.name-iterator) (table_view l.table) l.transitions.items
