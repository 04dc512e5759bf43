use Rattle.std.proofs.Common.{sym, ap, ◌∙◌, arith, ◌||◌}
use Rattle.std.proofs.lemmas.Result.{err_from_is_err_and}
use Rattle.template_reader.specs.Fault.{is_root}
use Rattle.template_reader.specs.Tree as trees
use Rattle.template_reader.specs.Forest.{tree_of, tree_in, branch_of}
use Rattle.template_reader.specs.Reading.{head}
use Rattle.template_reader.proofs.Parts.{moved_more, moved_stop, last_stop, passed_comment, passed_print, passed_begin, outside_print, outside_begin}
use Rattle.template_reader.proofs.Parts.{deep_begin, failed_begin}
use Rattle.template_reader.proofs.BlockParts.{other_wrong, other_twice, other_ends, first_wrong, other_failed, block_ends, block_others}
use Rattle.template_reader.proofs.reading.+reading.Goals as goal

pub read_block-returns-in_err-other-in-Otherwise-clause-err : goal.read_block-returns-in_err-other-in-Otherwise-clause-err
read_block-returns-in_err-other-in-Otherwise-clause-err t c =
    let p = err_from_is_err_and c.from_residual-in_err-other-in-Otherwise.result c.from_residual-in_err-other-in-Otherwise.ensures.1 in
    let f = c.in_ok-first.first in
    rw (p.1, p.2) (λ k. other_failed _ _ _ _ _ _ _ _ (tree_in f.nodes) f.stop f.place f.rest.from f.rest.taken _
    (rw c.is_inside.ensures at c.in_ok-first.ensures.ok) c.in-Otherwise.is (c.in_err-other-in-Otherwise.ensures.err k))

pub read_block-returns-then-not-is_name-clause-err : goal.read_block-returns-then-not-is_name-clause-err
read_block-returns-then-not-is_name-clause-err t c =
    let f = c.in_ok-first.first in
    rw c.fault_at-then-not-is_name.ensures (λ k. first_wrong _ _ _ _ _ _ _ _ (tree_in f.nodes) f.stop f.place f.rest.from f.rest.taken c.in-Finish.last
    (rw c.is_inside.ensures at c.in_ok-first.ensures.ok) c.in-Finish.is (sym c.is_name.ensures ∙ c.if-not-is_name.true))

pub read_block-returns-in_ok-other-in-Otherwise-clause-ok : goal.read_block-returns-in_ok-other-in-Otherwise-clause-ok
read_block-returns-in_ok-other-in-Otherwise-clause-ok t c =
    let f = c.in_ok-first.first in
    block_others _ _ _ _ _ _ _ _ _ (tree_in f.nodes) _ f.stop f.place f.rest.from f.rest.taken _ _ _ (rw c.is_inside.ensures at c.in_ok-first.ensures.ok)
    c.in-Otherwise.is c.in_ok-other-in-Otherwise.ensures.ok c.block_of.ensures

pub read_block-returns-else-not-is_name-clause-ok : goal.read_block-returns-else-not-is_name-clause-ok
read_block-returns-else-not-is_name-clause-ok t c =
    let f = c.in_ok-first.first in
    block_ends _ _ _ _ _ _ _ c.args.path _ (tree_in f.nodes) f.stop f.place f.rest.from f.rest.taken c.in-Finish.last _
    (rw c.is_inside.ensures at c.in_ok-first.ensures.ok) c.in-Finish.is (sym c.is_name.ensures ∙ c.if-not-is_name.false)
    (c.block_of-in-Finish.ensures ∙ ap (λ u. trees.block (head c.args.begun.name c.args.path) (tree_in f.nodes) u)
    (c.of-other.ensures ∙ ap tree_of c.new.ensures.items))

pub read_other-returns-then-not-is_name-clause-err : goal.read_other-returns-then-not-is_name-clause-err
read_other-returns-then-not-is_name-clause-err t c =
    let f = c.in_ok-other.other in
    rw c.fault_at-then-not-is_name.ensures (λ k. other_wrong _ _ _ _ _ _ _ _ (tree_in f.nodes) f.stop f.place f.rest.from f.rest.taken c.in-Finish.last
    c.in_ok-other.ensures.ok c.in-Finish.is (sym c.is_name.ensures ∙ c.if-not-is_name.true))

pub read_other-returns-in-Otherwise-clause-err : goal.read_other-returns-in-Otherwise-clause-err
read_other-returns-in-Otherwise-clause-err t c =
    let f = c.in_ok-other.other in
    rw c.fault_at-in-Otherwise.ensures (λ k. other_twice _ _ _ _ _ _ _ _ (tree_in f.nodes) f.stop f.place f.rest.from f.rest.taken c.in_ok-other.ensures.ok
    c.in-Otherwise.is)

pub read_other-returns-else-not-is_name-clause-ok : goal.read_other-returns-else-not-is_name-clause-ok
read_other-returns-else-not-is_name-clause-ok t c =
    let f = c.in_ok-other.other in
    other_ends _ _ _ _ _ _ _ _ (tree_in f.nodes) f.stop f.place f.rest.from f.rest.taken c.in-Finish.last c.in_ok-other.ensures.ok c.in-Finish.is
    (sym c.is_name.ensures ∙ c.if-not-is_name.false)

pub read_part-loop-nodes-preserved : goal.read_part-loop-nodes-preserved
read_part-loop-nodes-preserved t c =
    moved_more _ _ _ _ _ _ _ _ _ c.loop-nodes.left.from c.loop-nodes.left.taken _ _ c.loop-nodes.invariant (rw c.in-Goes.is at c.in_ok-rest.ensures.ok).1

pub read_part-returns-in-Stops-clause-ok : goal.read_part-returns-in-Stops-clause-ok
read_part-returns-in-Stops-clause-ok t c =
    let s = c.in-Stops in
    rw c.of.ensures (moved_stop _ _ _ _ _ _ _ _ _ c.loop-nodes.left.from c.loop-nodes.left.taken s.stop s.place s.rest.from s.rest.taken c.loop-nodes.invariant
    (rw c.in-Stops.is at c.in_ok-rest.ensures.ok))

pub read_one-returns-in_default-clause-ok : goal.read_one-returns-in_default-clause-ok
read_one-returns-in_default-clause-ok t c =
    last_stop _ _ _ _ _ _ _ _ c.requires.within (rw c.in_default.is at c.in_ok-passed.ensures.last) (rw c.in_default.is at c.in_ok-passed.ensures.last_text)

pub read_one-returns-in_err-check_path-in-Print-clause-err : goal.read_one-returns-in_err-check_path-in-Print-clause-err
read_one-returns-in_err-check_path-in-Print-clause-err t c =
    let x = err_from_is_err_and c.from_residual-in_err-check_path-in-Print.result c.from_residual-in_err-check_path-in-Print.ensures.1 in
    let s = c.in-Some.passed in
    let e = c.in_err-check_path-in-Print.ensures.err in
    rw (x.1, x.2) (λ k. outside_print _ _ _ _ _ _ _ _ s.form s.place s.rest.from s.rest.taken c.in-Print.expr _
    (rw c.in-Some.is at c.in_ok-passed.ensures.passes) c.in-Print.is
    (ap (λ w. is_root w || c.args.level.in_each) (sym c.path.ensures) ∙ e.0) e.1)

pub read_one-returns-in_err-check_path-in-Begin-clause-err : goal.read_one-returns-in_err-check_path-in-Begin-clause-err
read_one-returns-in_err-check_path-in-Begin-clause-err t c =
    let x = err_from_is_err_and c.from_residual-in_err-check_path-in-Begin.result c.from_residual-in_err-check_path-in-Begin.ensures.1 in
    let s = c.in-Some.passed in
    let e = c.in_err-check_path-in-Begin.ensures.err in
    rw (x.1, x.2) (λ k. outside_begin _ _ _ _ _ _ _ _ s.form s.place s.rest.from s.rest.taken c.in-Begin.name c.in-Begin.path _
    (rw c.in-Some.is at c.in_ok-passed.ensures.passes) c.in-Begin.is e.0 e.1)

pub read_one-returns-in_err-check_depth-in-Begin-clause-err : goal.read_one-returns-in_err-check_depth-in-Begin-clause-err
read_one-returns-in_err-check_depth-in-Begin-clause-err t c =
    let x = err_from_is_err_and c.from_residual-in_err-check_depth-in-Begin.result c.from_residual-in_err-check_depth-in-Begin.ensures.1 in
    let s = c.in-Some.passed in
    let e = c.in_err-check_depth-in-Begin.ensures.err in
    rw (x.1, x.2) (λ k. deep_begin _ _ _ _ _ _ _ _ s.form s.place s.rest.from s.rest.taken c.in-Begin.name c.in-Begin.path _
    (rw c.in-Some.is at c.in_ok-passed.ensures.passes) c.in-Begin.is c.in_ok-check_path-in-Begin.ensures.ok e.0 e.1)

pub read_one-returns-in_err-block-in-Begin-clause-err : goal.read_one-returns-in_err-block-in-Begin-clause-err
read_one-returns-in_err-block-in-Begin-clause-err t c =
    let x = err_from_is_err_and c.from_residual-in_err-block-in-Begin.result c.from_residual-in_err-block-in-Begin.ensures.1 in
    let s = c.in-Some.passed in
    rw (x.1, x.2) (λ k. failed_begin _ _ _ _ _ _ _ _ s.form s.place s.rest.from s.rest.taken c.in-Begin.name c.in-Begin.path _
    (rw c.in-Some.is at c.in_ok-passed.ensures.passes) c.in-Begin.is c.in_ok-check_path-in-Begin.ensures.ok c.in_ok-check_depth-in-Begin.ensures.ok
    (c.in_err-block-in-Begin.ensures.err k))

pub read_one-returns-in-Comment-clause-ok : goal.read_one-returns-in-Comment-clause-ok
read_one-returns-in-Comment-clause-ok t c =
    let s = c.in-Some.passed in
    let p = rw c.in-Some.is at c.in_ok-passed.ensures.passes in
    (p.later, passed_comment _ _ _ _ c.args.level.depth c.args.level.in_each _ _ s.form s.place s.rest.from s.rest.taken p c.in-Comment.is)

pub read_one-returns-in_ok-push_node-in-Print-clause-ok : goal.read_one-returns-in_ok-push_node-in-Print-clause-ok
read_one-returns-in_ok-push_node-in-Print-clause-ok t c =
    let s = c.in-Some.passed in
    let p = rw c.in-Some.is at c.in_ok-passed.ensures.passes in (
      p.later,
      passed_print _ _ _ _ c.args.level.depth c.args.level.in_each _ _ _ s.form s.place s.rest.from s.rest.taken c.in-Print.expr p c.in-Print.is
          (ap (λ w. is_root w || c.args.level.in_each) (sym c.path.ensures) ∙ c.in_ok-check_path-in-Print.ensures.ok)
          (c.in_ok-push_node-in-Print.ensures ∙ ap (λ b. trees.joined (tree_of c.pass_text.new.nodes.items) (trees.node b trees.done)) c.print_of.ensures),
    )

pub read_one-returns-in_ok-push_node-in-Begin-clause-ok : goal.read_one-returns-in_ok-push_node-in-Begin-clause-ok
read_one-returns-in_ok-push_node-in-Begin-clause-ok t c =
    let s = c.in-Some.passed in
    let w = c.in_ok-block-in-Begin.block in
    let p = rw c.in-Some.is at c.in_ok-passed.ensures.passes in
    let b = c.in_ok-block-in-Begin.ensures.ok in (
      omega (arith, p.later, b.later),
      passed_begin _ _ _ _ c.args.level.depth c.args.level.in_each _ _ _ s.form s.place s.rest.from s.rest.taken c.in-Begin.name c.in-Begin.path
          (branch_of w.node) w.rest.from w.rest.taken p c.in-Begin.is
          c.in_ok-check_path-in-Begin.ensures.ok c.in_ok-check_depth-in-Begin.ensures.ok b c.in_ok-push_node-in-Begin.ensures,
    )
