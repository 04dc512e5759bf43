use Rattle.std.proofs.Common.{◌≡◌, ◌≢◌, ◌+◌, refl, ap, subst, sym, ◌∙◌, drop, Some, Err, OnOk, IfErr, rules}
use Rattle.std.specs.Prelude.{IfSome}
use Rattle.std.proofs.lemmas.Result.{IfErr-weaker, err_from_is_err_and}
use Rattle.template_reader.specs.Tree.{Tree, Branch}
use Rattle.template_reader.specs.Forest.{tree_in, tree_of, branch_of}
use Rattle.template_reader.specs.declared.node.Node.{Node}
use Rattle.template_eval.specs.declared.render_error.RenderError.TheVariants.{Memory}
use Rattle.template_eval.specs.Place.{Here}
use Rattle.template_eval.specs.Rendered.{Rendered}
use Rattle.template_eval.specs.Kept.{Follows}
use Rattle.template_eval.specs.Steps.{Adds, Going}
use Rattle.template_eval.specs.Views.{place_of, places_of, seen, rendering, rendering_one, firsts_rendering}
use Rattle.template_eval.proofs.Additions.{going_more, going_fails, going_done}
use Rattle.template_eval.proofs.Entries.{firsts_next, firsts_fails, firsts_done, each_is}
use Rattle.template_eval.proofs.Trees.{next_node, no_node, next_lies, branch-each}
use Rattle.template_eval.proofs.rendering.+render.Goals as goal

pub push_first-returns-clause-ok : goal.push_first-returns-clause-ok
push_first-returns-clause-ok t c =
    let here : Here = record { this = place_of c.args.place; index = c.args.index } in
    let P : Tree → Type 0 = λ u. OnOk c.push_nodes.result (Adds (rendering c.args.inputs.now u (Some here)) c.args.out.now.items c.push_nodes.new.out.items) in
    subst P c.as_slice.ensures c.push_nodes.ensures.ok

pub push_first-returns-clause-err : goal.push_first-returns-clause-err
push_first-returns-clause-err t c =
    let here : Here = record { this = place_of c.args.place; index = c.args.index } in
    let P : Tree → Type 0 = λ u. IfErr c.push_nodes.result (λ e. e ≢ Memory → rendering c.args.inputs.now u (Some here) ≡ Err e) in
    subst P c.as_slice.ensures c.push_nodes.ensures.err

pub push_firsts-loop-split-preserved : goal.push_firsts-loop-split-preserved
push_firsts-loop-split-preserved t c =
    let inputs = c.args.inputs.now in
    let once : Here → Rendered = λ h. rendering inputs (tree_in c.args.first.now) (Some h) in
    record {
      so_far = firsts_next inputs.content.now (firsts_rendering inputs (places_of inputs.content.now c.args.places) (tree_in c.args.first.now)) once
          (once (record { this = place_of c.in-Some.split.first; index = c.loop-split.index }))
          (places_of inputs.content.now c.loop-split.rest) c.in_ok-split.field-0 c.in-Some.split c.loop-split.index c.in_ok-index.index c.args.out.now.items
          c.loop-split.out.items c.push_first.new.out.items
          c.in_ok-split.ensures.parts c.in-Some.is (search rules) refl c.loop-split.invariant.so_far c.in_ok-push_first.ensures.ok;
      follows = subst (λ o. IfSome o (λ s. Follows inputs.content.now s.rest)) c.in-Some.is c.in_ok-split.ensures.follows;
    }

pub push_node-returns-in-Each-clause-ok : goal.push_node-returns-in-Each-clause-ok
push_node-returns-in-Each-clause-ok t c =
    let inputs = c.args.inputs.now in
    let here = seen c.args.here in
    let whole = ap (λ (n : Node). rendering_one inputs (branch_of n) here) c.in-Each.is ∙ ap (λ (b : Branch). rendering_one inputs b here)
    (branch-each c.in-Each.path c.in-Each.first c.in-Each.other) in
    let P : Rendered → Type 0 = λ r. OnOk c.push_each.result (Adds r c.args.out.now.items c.push_each.new.out.items) in
    subst P (sym whole) c.push_each.ensures.ok

pub push_each-node-requires : goal.push_each-node-requires
push_each-node-requires t c = c.in_ok-place.ensures.kept c.args.inputs.now.content.now c.requires.here

pub push_each-push_places-requires : goal.push_each-push_places-requires
push_each-push_places-requires t c = (
  search rules,
  (c.in_ok-places.ensures.follows c.args.inputs.now.content.now c.node.ensures.follows, (c.requires.first, (c.requires.other, c.requires.here))),
)

pub push_firsts-split_first-requires : goal.push_firsts-split_first-requires
push_firsts-split_first-requires t c = c.loop-split.invariant.follows

pub push_each-returns-in_err-places-clause-err : goal.push_each-returns-in_err-places-clause-err
push_each-returns-in_err-places-clause-err t c =
    let x = err_from_is_err_and c.from_residual-in_err-places.result c.from_residual-in_err-places.ensures.1 in
    let inputs = c.args.inputs.now in
    let here = seen c.args.here in
    let first = tree_in c.args.first.now in
    let other = tree_in c.args.other.now in
    rw (x.1, x.2) (λ k. each_is inputs c.args.path.now first other here _ _ _ c.node.ensures.node c.in_ok-place.ensures.leads
    (c.in_err-places.ensures.err inputs.content.now (λ h. rendering inputs first (Some h)) (rendering inputs other here) k))

pub push_each-returns-clause-ok : goal.push_each-returns-clause-ok
push_each-returns-clause-ok t c =
    let inputs = c.args.inputs.now in
    let here = seen c.args.here in
    let first = tree_in c.args.first.now in
    let other = tree_in c.args.other.now in
    let P : Rendered → Type 0 = λ r. OnOk c.push_places.result (Adds r c.args.out.now.items c.push_places.new.out.items) in
    subst P (sym (each_is inputs c.args.path.now first other here _ _ _ c.node.ensures.node c.in_ok-place.ensures.leads
    (c.in_ok-places.ensures.ok inputs.content.now (λ h. rendering inputs first (Some h)) (rendering inputs other here)))) c.push_places.ensures.ok

pub push_each-returns-clause-err : goal.push_each-returns-clause-err
push_each-returns-clause-err t c =
    let inputs = c.args.inputs.now in
    let here = seen c.args.here in
    let first = tree_in c.args.first.now in
    let other = tree_in c.args.other.now in
    IfErr-weaker c.push_places.result _ _ (λ e h k. each_is inputs c.args.path.now first other here _ _ _ c.node.ensures.node c.in_ok-place.ensures.leads
    (c.in_ok-places.ensures.ok inputs.content.now (λ h. rendering inputs first (Some h)) (rendering inputs other here)) ∙ h k) c.push_places.ensures.err

pub push_nodes-loop-node-preserved : goal.push_nodes-loop-node-preserved
push_nodes-loop-node-preserved t c =
    let inputs = c.args.inputs.now in
    let here = seen c.args.here in
    let nodes = c.args.nodes.now in
    let n = c.node-item.result in
    let P : Tree → Type 0 = λ u. Going (rendering inputs (tree_of nodes) here) (rendering inputs u here) c.args.out.now.items c.loop-node.out.items in
    record {
      so_far = going_more _ (rendering_one inputs (branch_of n) here) _ _ _ _
          (subst P (next_node nodes c.loop-node.node-index n c.loop-node-test.true c.node-item.is) c.loop-node.invariant.so_far) c.in_ok-push_node.ensures.ok;
      left = (next_lies inputs.source.now nodes c.loop-node.node-index n c.loop-node.invariant.left c.loop-node-test.true c.node-item.is).2;
    }

pub push_nodes-returns-in_err-push_node-clause-err : goal.push_nodes-returns-in_err-push_node-clause-err
push_nodes-returns-in_err-push_node-clause-err t c =
    let x = err_from_is_err_and c.from_residual.result c.from_residual.ensures.1 in
    let inputs = c.args.inputs.now in
    let here = seen c.args.here in
    let nodes = c.args.nodes.now in
    let n = c.node-item.result in
    let P : Tree → Type 0 = λ u. Going (rendering inputs (tree_of nodes) here) (rendering inputs u here) c.args.out.now.items c.loop-node.out.items in
    rw (x.1, x.2) (λ k. going_fails _ (rendering_one inputs (branch_of n) here) (rendering inputs (tree_of (drop (c.loop-node.node-index + 1) nodes)) here) _ _
    _ (subst P (next_node nodes c.loop-node.node-index n c.loop-node-test.true c.node-item.is) c.loop-node.invariant.so_far)
    (c.in_err-push_node.ensures.err k))

pub push_nodes-returns-clause-ok : goal.push_nodes-returns-clause-ok
push_nodes-returns-clause-ok t c =
    let inputs = c.args.inputs.now in
    let here = seen c.args.here in
    let nodes = c.args.nodes.now in
    let P : Tree → Type 0 = λ u. Going (rendering inputs (tree_of nodes) here) (rendering inputs u here) c.args.out.now.items c.loop-node.out.items in
    going_done _ _ _ (subst P (no_node nodes c.loop-node.node-index c.loop-node-test.false) c.loop-node.invariant.so_far)

pub push_firsts-returns-in_err-push_first-clause-err : goal.push_firsts-returns-in_err-push_first-clause-err
push_firsts-returns-in_err-push_first-clause-err t c =
    let x = err_from_is_err_and c.from_residual-in_err-push_first.result c.from_residual-in_err-push_first.ensures.1 in
    let inputs = c.args.inputs.now in
    let once : Here → Rendered = λ h. rendering inputs (tree_in c.args.first.now) (Some h) in
    rw (x.1, x.2) (λ k. firsts_fails inputs.content.now _ once _ (places_of inputs.content.now c.loop-split.rest) c.in_ok-split.field-0 c.in-Some.split
    c.loop-split.index c.args.out.now.items c.loop-split.out.items _
    c.in_ok-split.ensures.parts c.in-Some.is refl c.loop-split.invariant.so_far (c.in_err-push_first.ensures.err k))

pub push_firsts-returns-clause-ok : goal.push_firsts-returns-clause-ok
push_firsts-returns-clause-ok t c =
    let inputs = c.args.inputs.now in
    let once : Here → Rendered = λ h. rendering inputs (tree_in c.args.first.now) (Some h) in
    firsts_done inputs.content.now _ once (places_of inputs.content.now c.loop-split.rest) c.in_ok-split.field-0 c.loop-split.index c.args.out.now.items
    c.loop-split.out.items c.in_ok-split.ensures.parts c.in_default.is c.loop-split.invariant.so_far
