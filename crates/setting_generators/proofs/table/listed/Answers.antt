use Rattle.std.proofs.Common.{◌≡◌, true, string_bytes, ap, ◌∙◌, subst, rules}
use Rattle.std.specs.BTreeSet.{Updates}
use Rattle.key_names.specs.Order.{key_cmp}
use Rattle.toml.specs.View.{view, members_view, table_view}
use Rattle.setting_generators.specs.Generators.{Path}
use Rattle.setting_generators.specs.Refused.{RefusesTable}
use Rattle.setting_generators.proofs.Entries.{begun, grown, stopped, ended}
use Rattle.setting_generators.proofs.table.listed.Goals as goal

pub loop-name-init : goal.loop-name-init
loop-name-init c =
    let all : c.into_iter-name-iterator.result ≡ c.args.table.now.entries = c.into_iter-name-iterator.ensures.into_iter_gives
    ∙ c.iter-name-items.ensures.rest in
    rw all (begun c.args.types.now (table_view c.args.table.now) c.new-listed.result.items c.new-keys.result c.new-listed.ensures.items
    c.new-keys.ensures.empty)

pub returns-in_err-generator-clause-refused : goal.returns-in_err-generator-clause-refused
returns-in_err-generator-clause-refused c =
    let refused : RefusesTable c.args.types.now (table_view c.args.table.now) c.in_err-generator.field-0.0 =
    stopped c.args.types.now (table_view c.args.table.now) _ (members_view c.next.new.self) c.as_str.result.now (string_bytes c.in-Some.name.now)
    (view c.in-Some.value.now) _ _ c.loop-name.invariant
    (ap members_view c.in-Some.ensures.steps) c.as_str.ensures.value c.in_err-generator.field-0.0 c.in_err-generator.ensures.refused in
    search (rules, refused)

pub loop-name-preserved : goal.loop-name-preserved
loop-name-preserved c =
    let taken : Updates key_cmp c.loop-name.keys c.insert.new.self c.in_ok-generator.generator.key true =
    subst (λ (k : Path). Updates key_cmp c.loop-name.keys c.insert.new.self k true) c.in_ok-copy.ensures c.in_ok-insert.ensures.updates in
    grown c.args.types.now (table_view c.args.table.now) _ (members_view c.next.new.self) c.as_str.result.now (string_bytes c.in-Some.name.now)
    (view c.in-Some.value.now) _ _ c.loop-name.invariant
    (ap members_view c.in-Some.ensures.steps) c.as_str.ensures.value c.in_ok-generator.generator c.push.new.self.items c.insert.new.self
    c.in_ok-push.ensures.items taken c.in_ok-generator.ensures.ok

pub returns-clause-ok : goal.returns-clause-ok
returns-clause-ok c = ended c.args.types.now (table_view c.args.table.now) _ _ _ c.loop-name.invariant (ap members_view c.in-None.ensures.steps.0)

pub returns-clause-distinct : goal.returns-clause-distinct
returns-clause-distinct c = c.loop-name.invariant.distinct
