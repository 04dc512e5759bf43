use Rattle.std.proofs.Common.{map, string_bytes, ap}
use Rattle.toml.specs.View.{members_view, table_view}
use Rattle.toml_values.proofs.OtherNames.{other_found, known_passed}
use Rattle.toml_values.proofs.names.other_name.Goals as goal

pub returns-then-not-is_among : goal.returns-then-not-is_among
returns-then-not-is_among c =
    other_found (map (λ n. n.now) c.args.names.now) (table_view c.args.table.now) _ (members_view c.next.new.self) (string_bytes c.in-Some.name.now)
    c.as_str-name.result.now _ c.loop-name.invariant.2 (ap members_view c.in-Some.ensures.steps) c.as_str-name.ensures.value c.if-not-is_among.ensures

pub loop-name-preserved : goal.loop-name-preserved
loop-name-preserved c = (
  tt,
  tt,
  known_passed (map (λ n. n.now) c.args.names.now) (table_view c.args.table.now) _ (members_view c.next.new.self) (string_bytes c.in-Some.name.now)
      c.as_str-name.result.now _ c.loop-name.invariant.2 (ap members_view c.in-Some.ensures.steps) c.as_str-name.ensures.value c.if-not-is_among.ensures,
)
