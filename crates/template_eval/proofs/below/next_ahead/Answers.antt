use Rattle.std.proofs.Common.{Some, sym, ◌∙◌, subst}
use Rattle.std.specs.Prelude.{IfNone}
use Rattle.key_names.specs.Order.{key_total, key_cmp-IsAntisymmetric}
use Rattle.settings_tree.specs.Walks.{HasNoneBelow}
use Rattle.settings_tree.proofs.Below.{later_least, later_none, none_later, prefix_le}
use Rattle.settings_tree.proofs.Walks.{first_past, none_past}
use Rattle.template_eval.proofs.below.next_ahead.Goals as goal

pub returns-in_err-key-clause-none : goal.returns-in_err-key-clause-none
returns-in_err-key-clause-none c values last is begins = subst (λ r. IfNone r (HasNoneBelow values c.args.parent.now (Some last))) (sym c.from_residual.ensures)
    (none_later values c.args.parent.now last (none_past key_total key_cmp-IsAntisymmetric values (Some last) (sym is ∙ c.in_err-key.ensures.steps.0)))

pub returns-then-is_prefix-clause-least : goal.returns-then-is_prefix-clause-least
returns-then-is_prefix-clause-least c values last is =
    let key = c.in_ok-key.key.now in
    let value = c.in_ok-key.value.now in
    later_least values c.args.parent.now key value last
    ((first_past key_total key_cmp-IsAntisymmetric values (Some last) key value c.next.new.self (sym is ∙ c.in_ok-key.ensures.steps)).0)
    (sym c.is_prefix.ensures ∙ c.if-is_prefix.true)

pub returns-then-is_prefix-clause-ahead : goal.returns-then-is_prefix-clause-ahead
returns-then-is_prefix-clause-ahead c values last is =
    (first_past key_total key_cmp-IsAntisymmetric values (Some last) c.in_ok-key.key.now c.in_ok-key.value.now c.next.new.self
    (sym is ∙ c.in_ok-key.ensures.steps)).1

pub returns-else-is_prefix-clause-none : goal.returns-else-is_prefix-clause-none
returns-else-is_prefix-clause-none c values last is begins =
    let key = c.in_ok-key.key.now in
    let value = c.in_ok-key.value.now in
    later_none values c.args.parent.now key value last (prefix_le c.args.parent.now last begins)
    ((first_past key_total key_cmp-IsAntisymmetric values (Some last) key value c.next.new.self (sym is ∙ c.in_ok-key.ensures.steps)).0)
    (sym c.is_prefix.ensures ∙ c.if-is_prefix.false)
