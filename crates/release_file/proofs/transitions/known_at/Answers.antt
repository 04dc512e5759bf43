use Rattle.std.proofs.Common.{option_map, sym, ap, ◌∙◌}
use Rattle.std.specs.List.{list_all}
use Rattle.toml.specs.View.{view, table_view}
use Rattle.release_file.specs.Checks.{is_defined}
use Rattle.release_file.proofs.Made.{known_refused}
use Rattle.release_file.proofs.transitions.known_at.Goals as goal

pub returns-clause-refused : goal.returns-clause-refused
returns-clause-refused c =
    let migrations = table_view c.args.migrations.now in
    known_refused migrations (c.args.name.now, view c.args.value.now) c.in-Some.names.items c.refused.result
    (ap (option_map (λ v. v.items)) (sym c.in-Some.is) ∙ c.in_ok-names.ensures)
    (ap (list_all (is_defined migrations)) (sym c.deref.ensures.value) ∙ sym c.are_there.ensures ∙ c.if-are_there.false) c.refused.ensures
