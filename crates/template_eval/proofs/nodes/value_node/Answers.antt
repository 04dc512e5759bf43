use Rattle.std.proofs.Common.{ap, sym, ◌∙◌, Option, None, arith}
use Rattle.std.specs.FinMap.{get}
use Rattle.json_trees.specs.declared.scalar.Scalar.{Scalar}
use Rattle.template_eval.specs.Node.{value_node, children}
use Rattle.template_eval.specs.Children.{children_below}
use Rattle.template_eval.proofs.ChildSteps.{prefix_itself, children_start, nothing_below, no_value, some_child, same_key, longer_key}
use Rattle.template_eval.proofs.nodes.value_node.Goals as goal

pub invariant_of-result : goal.invariant_of-result
invariant_of-result c = record { begins = prefix_itself c.args.key.now; outside = c.requires }

pub returns-in-None-clause-node : goal.returns-in-None-clause-node
returns-in-None-clause-node c =
    let values = c.args.content.now.values in
    let none = nothing_below values c.args.key.now c.in-None.ensures.none in
    sym (ap (λ (o : Option Scalar). value_node o (children_below values c.args.key.now)) none.0 ∙ ap (value_node None) none.1)

pub returns-then-len-clause-node : goal.returns-then-len-clause-node
returns-then-len-clause-node c =
    let values = c.args.content.now.values in
    let least = c.in-Some.ensures.least in
    let same = same_key values c.args.key.now c.in-Some.found.now least.begins (omega (arith, c.if-len.true, c.len.ensures.count, c.len-in-Some.ensures.count))
    in
    c.scalar_node.ensures.node c.args.content.now ∙ sym (ap (λ (o : Option Scalar). value_node o (children_below values c.args.key.now))
    (ap (get values) (sym same) ∙ least.stands))

pub returns-else-len-clause-node : goal.returns-else-len-clause-node
returns-else-len-clause-node c =
    let values = c.args.content.now.values in
    let key = c.args.key.now in
    let least = c.in-Some.ensures.least in
    let longer = longer_key values key c.in-Some.found.now least.begins (λ same. c.if-len.false (c.len.ensures.count ∙ same ∙ sym c.len-in-Some.ensures.count))
    in
    let none = no_value values key c.in-Some.found.now c.in-Some.scalar.now least longer in
    let some = some_child values key c.in-Some.found.now c.in-Some.scalar.now least longer in
    sym (ap (λ (o : Option Scalar). value_node o (children_below values key)) none ∙ ap (value_node None) some.2
    ∙ ap children (sym some.2 ∙ children_start values key))

pub returns-then-len-clause-follows : goal.returns-then-len-clause-follows
returns-then-len-clause-follows c = c.scalar_node.ensures.follows c.args.content.now
