use Rattle.std.proofs.Common.{◌≡◌, ◌++◌}
use Rattle.toml.specs.View.{members_view, table_view}
use Rattle.model_file.specs.Entries.{members_entries}
use Rattle.model_file.proofs.walk.+walk.Given as goal

abbrev pub invariant-push_members-loop-name : goal.invariant-push_members-loop-name
invariant-push_members-loop-name l =
    l.all.items ++ members_entries l.path (members_view l.name-iterator) ≡ l.initial.all.items ++ members_entries l.path (table_view l.members)
