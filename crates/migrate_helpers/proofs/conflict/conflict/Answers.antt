use Rattle.std.proofs.Common.{sym, ◌∙◌}
use Rattle.std.specs.Option.{option_copied}
use Rattle.key_names.specs.Order.{key_total, key_cmp-IsAntisymmetric}
use Rattle.settings_tree.proofs.Walks.{walk_start, first_past, none_past}
use Rattle.migrate_helpers.specs.Laws.Conflicts.{conflict_start, conflict_found, conflict_later, conflict_end}
use Rattle.migrate_helpers.proofs.conflict.conflict.Goals as goal

pub loop-key-init : goal.loop-key-init
loop-key-init g c = record {
  rest = c.into_iter-key-iterator.ensures.into_iter_gives ∙ c.iter-key-items.ensures ∙ sym (walk_start key_total key_cmp-IsAntisymmetric c.args.map.now);
  left = conflict_start c.args.map.now;
}

pub loop-key-preserved : goal.loop-key-preserved
loop-key-preserved g c =
    let next = first_past key_total key_cmp-IsAntisymmetric c.args.map.now (option_copied c.loop-key.before) c.in-Some.key.now c.in-Some.field-0-1.now
    c.next.new.self (sym c.loop-key.invariant.rest ∙ c.in-Some.ensures.steps) in
    record {
      rest = next.1;
      left = conflict_later c.args.map.now (option_copied c.loop-key.before) c.in-Some.key.now c.in-Some.field-0-1.now next.0 c.loop-key.invariant.left
          (sym c.begins_with.ensures ∙ c.if-begins_with.false);
    }

pub returns-then-begins_with : goal.returns-then-begins_with
returns-then-begins_with g c =
    let next = first_past key_total key_cmp-IsAntisymmetric c.args.map.now (option_copied c.loop-key.before) c.in-Some.key.now c.in-Some.field-0-1.now
    c.next.new.self (sym c.loop-key.invariant.rest ∙ c.in-Some.ensures.steps) in
    conflict_found c.args.map.now (option_copied c.loop-key.before) c.in-Some.key.now c.in-Some.field-0-1.now next.0 c.loop-key.invariant.left
    (sym c.begins_with.ensures ∙ c.if-begins_with.true)

pub returns : goal.returns
returns g c = conflict_end c.args.map.now (option_copied c.loop-key.before)
    (none_past key_total key_cmp-IsAntisymmetric c.args.map.now (option_copied c.loop-key.before)
    (sym c.loop-key.invariant.rest ∙ c.in-None.ensures.steps.0))
    c.loop-key.invariant.left
