use Rattle.std.proofs.Common.{◌≡◌, Some, None, option_map, sym, ap, ◌∙◌}
use Rattle.toml.specs.Data.{get_member}
use Rattle.toml.specs.View.{view, table_view}
use Rattle.release_file.proofs.SectionNames.{missing_passes, missing_members, table_passes, table_members, other_refuses}
use Rattle.release_file.proofs.document.section.Goals as goal

pub returns-in_default-clause-passes : goal.returns-in_default-clause-passes
returns-in_default-clause-passes c =
    let none : get_member c.args.name.now (table_view c.args.document.now) ≡ None = sym c.field.ensures ∙ ap (option_map (λ x. view x.now)) c.in_default.is in
    missing_passes c.args.kind c.args.name.now _ none

pub returns-in_default-clause-members : goal.returns-in_default-clause-members
returns-in_default-clause-members c =
    let none : get_member c.args.name.now (table_view c.args.document.now) ≡ None = sym c.field.ensures ∙ ap (option_map (λ x. view x.now)) c.in_default.is in
    missing_members c.args.kind c.args.name.now _ none

pub returns-in-Some-as_table-clause-passes : goal.returns-in-Some-as_table-clause-passes
returns-in-Some-as_table-clause-passes c =
    let there : get_member c.args.name.now (table_view c.args.document.now) ≡ Some (view c.in-Some.value.now) = sym c.field.ensures
    ∙ ap (option_map (λ x. view x.now)) c.in-Some.is in
    table_passes c.args.kind c.args.name.now _ _ (table_view c.in-Some-as_table.table.now) there (sym c.in-Some-as_table.ensures)

pub returns-in-Some-as_table-clause-members : goal.returns-in-Some-as_table-clause-members
returns-in-Some-as_table-clause-members c =
    let there : get_member c.args.name.now (table_view c.args.document.now) ≡ Some (view c.in-Some.value.now) = sym c.field.ensures
    ∙ ap (option_map (λ x. view x.now)) c.in-Some.is in
    table_members c.args.kind c.args.name.now _ _ (table_view c.in-Some-as_table.table.now) there (sym c.in-Some-as_table.ensures)

pub returns-in-None-clause-refused : goal.returns-in-None-clause-refused
returns-in-None-clause-refused c =
    let there : get_member c.args.name.now (table_view c.args.document.now) ≡ Some (view c.in-Some.value.now) = sym c.field.ensures
    ∙ ap (option_map (λ x. view x.now)) c.in-Some.is in
    other_refuses c.args.kind c.args.name.now _ _ c.refused.result there (sym c.in-None.ensures) c.refused.ensures
