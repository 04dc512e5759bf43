use Rattle.std.proofs.Common.{◌≡◌, map}
use Rattle.toml.specs.View.{members_view, table_view}
use Rattle.toml_values.specs.Document.{other_name}
use Rattle.toml_values.proofs.names.other_name.Given as goal

-- those so far are among the names
abbrev pub invariant-loop-name : goal.invariant-loop-name
invariant-loop-name l =
    (goal.iterator-loop-name).can_next l.name-iterator × (goal.iterator-loop-name).is_finite l.name-iterator
    × (other_name (map (λ n. n.now) l.names) (table_view l.table) ≡ other_name (map (λ n. n.now) l.names) (members_view l.name-iterator))
