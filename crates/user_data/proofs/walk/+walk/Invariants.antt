use Rattle.toml.specs.View.{members_view, table_view}
use Rattle.user_data.proofs.Gathering.{Gathering}
use Rattle.user_data.proofs.walk.+walk.Given as goal

abbrev pub invariant-push_members-loop-name : goal.invariant-push_members-loop-name
invariant-push_members-loop-name l = Gathering l.place.key (table_view l.members) (members_view l.name-iterator) l.initial.pairs.items l.pairs.items
