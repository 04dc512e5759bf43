use Rattle.std.proofs.Common.{◌≡◌, ◌++◌, Some, None, Ok, option_map, rules, sym, ap, ◌∙◌, subst}
use Rattle.toml.specs.Data.{get_member, as_table}
use Rattle.toml.specs.View.{view, table_view}
use Rattle.user_data.specs.Pairs.{Path, Pairs, settings, settings_pairs, members_pairs}
use Rattle.user_data.specs.Refused.{Refuses}
use Rattle.user_data.proofs.Documents.{table_pairs, other_refuses, none_apart}
use Rattle.user_data.proofs.Parted.{members_apart}
use Rattle.user_data.proofs.document.settings_pairs.Goals as goal

pub returns-in_default-clause-ok : goal.returns-in_default-clause-ok
returns-in_default-clause-ok c =
    let none : get_member settings (table_view c.args.document.now) ≡ None = sym c.settings_of.ensures ∙ ap (option_map (λ x. view x.now)) c.in_default.is in
    ap settings_pairs none ∙ ap Ok (sym c.new-pairs.ensures.items)

pub returns-in_default-clause-apart : goal.returns-in_default-clause-apart
returns-in_default-clause-apart c = none_apart c.new-pairs.result.items c.new-pairs.ensures.items

pub returns-in_default-as_table-clause-refused : goal.returns-in_default-as_table-clause-refused
returns-in_default-as_table-clause-refused c =
    let there : get_member settings (table_view c.args.document.now) ≡ Some (view c.in-Some.value.now) = sym c.settings_of.ensures
    ∙ ap (option_map (λ x. view x.now)) c.in-Some.is in
    let other : as_table (view c.in-Some.value.now) ≡ None = sym c.as_table.ensures ∙ ap (option_map (λ x. table_view x.now)) c.in_default-as_table.is in
    other_refuses _ _ c.refused.result there other c.refused.ensures

pub returns-in_err-push_members-clause-refused : goal.returns-in_err-push_members-clause-refused
returns-in_err-push_members-clause-refused c =
    let there : get_member settings (table_view c.args.document.now) ≡ Some (view c.in-Some.value.now) = sym c.settings_of.ensures
    ∙ ap (option_map (λ x. view x.now)) c.in-Some.is in
    let found : as_table (view c.in-Some.value.now) ≡ Some (table_view c.in-Some-as_table.table.now) = sym c.as_table.ensures
    ∙ ap (option_map (λ x. table_view x.now)) c.in-Some-as_table.is in
    let pairs = table_pairs _ _ _ there found ∙ ap (λ (k : Path). members_pairs k (table_view c.in-Some-as_table.table.now)) (sym c.in_ok-place.ensures) in
    let refused = subst (λ (r : Pairs). Refuses r c.in_err-push_members.field-0.0) (sym pairs) c.in_err-push_members.ensures.refused in
    search (rules, refused)

pub returns-clause-ok : goal.returns-clause-ok
returns-clause-ok c =
    let there : get_member settings (table_view c.args.document.now) ≡ Some (view c.in-Some.value.now) = sym c.settings_of.ensures
    ∙ ap (option_map (λ x. view x.now)) c.in-Some.is in
    let found : as_table (view c.in-Some.value.now) ≡ Some (table_view c.in-Some-as_table.table.now) = sym c.as_table.ensures
    ∙ ap (option_map (λ x. table_view x.now)) c.in-Some-as_table.is in
    let pairs = table_pairs _ _ _ there found ∙ ap (λ (k : Path). members_pairs k (table_view c.in-Some-as_table.table.now)) (sym c.in_ok-place.ensures) in
    let more = c.in_ok-push_members.ensures.ok in
    pairs ∙ more.none_refused ∙ ap Ok (sym (more.appended ∙ ap (λ l. l ++ more.found) c.new-pairs.ensures.items))

pub returns-clause-apart : goal.returns-clause-apart
returns-clause-apart c =
    let more = c.in_ok-push_members.ensures.ok in
    let rise = c.in_ok-push_members.ensures.rise in
    members_apart c.in_ok-place.place.key (table_view c.in-Some-as_table.table.now) c.push_members.new.pairs.items rise.0 rise.1
    (more.none_refused ∙ ap Ok (sym (more.appended ∙ ap (λ l. l ++ more.found) c.new-pairs.ensures.items)))
