use Rattle.std.proofs.Common.{◌≡◌, ◌++◌, map}
use Rattle.std.specs.List.Sorted.{IsStrictlySortedBy}
use Rattle.toml.specs.View.{members_view, table_view}
use Rattle.key_names.specs.Order.{bytes_cmp}
use Rattle.toml_values.specs.Document.{named}
use Rattle.model_file.specs.Checks.{os_check}
use Rattle.model_file.specs.Contents.{os_texts}
use Rattle.model_file.proofs.LeftChecks.{Decides}
use Rattle.model_file.proofs.os_section.names_of.Given as goal

abbrev pub invariant-loop-name : goal.invariant-loop-name
invariant-loop-name l =
    Decides (map os_check (named (members_view l.name-iterator))) (map os_check (named (table_view l.table)))
    × (map (λ n. (n.name, n.text)) l.names.items ++ os_texts (named (members_view l.name-iterator)) ≡ os_texts (named (table_view l.table)))
    × IsStrictlySortedBy bytes_cmp (map (λ n. n.name) l.names.items ++ map (λ e. e.0) (named (members_view l.name-iterator)))
