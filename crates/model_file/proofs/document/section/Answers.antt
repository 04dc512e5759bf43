use Rattle.std.proofs.Common.{◌≡◌, option_map, unwrap_or, refl, ap, ◌∙◌}
use Rattle.toml.specs.Data.{table, no_members}
use Rattle.toml.specs.View.{view, table_view}
use Rattle.model_file.specs.Document.{section}
use Rattle.model_file.proofs.Sections.{section_is, passes_table, members_table, refuses_table}
use Rattle.model_file.proofs.document.section.Goals as goal

pub returns-in_default-clause-passes : goal.returns-in_default-clause-passes
returns-in_default-clause-passes c =
    let none : section c.args.name.now (table_view c.args.document.now) ≡ table no_members =
    section_is c.args.name.now c.get.result c.args.document.now.entries c.get.ensures.value
    ∙ ap (λ r. unwrap_or (option_map (λ x. view x.now) r) (table no_members)) c.in_default.is in
    λ rows. passes_table rows c.args.name.now _ _ no_members none refl

pub returns-in_default-clause-members : goal.returns-in_default-clause-members
returns-in_default-clause-members c =
    let none : section c.args.name.now (table_view c.args.document.now) ≡ table no_members =
    section_is c.args.name.now c.get.result c.args.document.now.entries c.get.ensures.value
    ∙ ap (λ r. unwrap_or (option_map (λ x. view x.now) r) (table no_members)) c.in_default.is in
    members_table c.args.name.now _ _ no_members none refl

pub returns-in-Some-as_table-clause-passes : goal.returns-in-Some-as_table-clause-passes
returns-in-Some-as_table-clause-passes c =
    let found : section c.args.name.now (table_view c.args.document.now) ≡ view c.in-Some.value.now =
    section_is c.args.name.now c.get.result c.args.document.now.entries c.get.ensures.value
    ∙ ap (λ r. unwrap_or (option_map (λ x. view x.now) r) (table no_members)) c.in-Some.is in
    λ rows. passes_table rows c.args.name.now _ _ (table_view c.in-Some-as_table.table.now) found c.in-Some-as_table.ensures

pub returns-in-Some-as_table-clause-members : goal.returns-in-Some-as_table-clause-members
returns-in-Some-as_table-clause-members c =
    let found : section c.args.name.now (table_view c.args.document.now) ≡ view c.in-Some.value.now =
    section_is c.args.name.now c.get.result c.args.document.now.entries c.get.ensures.value
    ∙ ap (λ r. unwrap_or (option_map (λ x. view x.now) r) (table no_members)) c.in-Some.is in
    members_table c.args.name.now _ _ (table_view c.in-Some-as_table.table.now) found c.in-Some-as_table.ensures

pub returns-in-None-clause-refused : goal.returns-in-None-clause-refused
returns-in-None-clause-refused c =
    let found : section c.args.name.now (table_view c.args.document.now) ≡ view c.in-Some.value.now =
    section_is c.args.name.now c.get.result c.args.document.now.entries c.get.ensures.value
    ∙ ap (λ r. unwrap_or (option_map (λ x. view x.now) r) (table no_members)) c.in-Some.is in
    λ rows. refuses_table rows c.args.name.now _ _ c.refused.result found c.in-None.ensures c.refused.ensures
