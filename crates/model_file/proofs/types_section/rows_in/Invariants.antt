use Rattle.std.proofs.Common.{◌≡◌, ◌++◌, map}
use Rattle.toml.specs.View.{members_view, table_view}
use Rattle.toml_values.specs.Document.{named}
use Rattle.model_file.specs.Rows.{row_of}
use Rattle.model_file.proofs.types_section.rows_in.Given as goal

abbrev pub invariant-loop-name : goal.invariant-loop-name
invariant-loop-name l = l.texts.items ++ map row_of (named (members_view l.name-iterator)) ≡ map row_of (named (table_view l.table))
