use Rattle.std.proofs.Common.{map, subst}
use Rattle.std.specs.Prelude.{IfSome}
use Rattle.std.proofs.lemmas.Result.{err_from_is_err_and}
use Rattle.template_eval.specs.Kept.{Follows}
use Rattle.template_eval.specs.Views.{places_of, pair_of}
use Rattle.template_eval.proofs.Entries.{behind_begins, behind_next, behind_fails, behind_done}
use Rattle.template_eval.proofs.joins.push_children.Goals as goal

pub loop-split-init : goal.loop-split-init
loop-split-init c =
    let pair = pair_of c.args.inputs.now c.args.joiner.now c.args.path.now in
    record {
      so_far = behind_begins c.args.separator.now (map pair (places_of c.args.inputs.now.content.now c.args.places)) c.args.out.now.items;
      follows = c.requires;
    }

pub loop-split-preserved-in_ok-push_behind : goal.loop-split-preserved-in_ok-push_behind
loop-split-preserved-in_ok-push_behind c =
    let pair = pair_of c.args.inputs.now c.args.joiner.now c.args.path.now in
    record {
      so_far = behind_next c.args.inputs.now.content.now _ _ c.args.separator.now pair (places_of c.args.inputs.now.content.now c.loop-split.rest)
          c.in_ok-split.field-0 c.in-Some.split c.args.out.now.items c.loop-split.out.items c.push_behind.new.out.items c.in_ok-split.ensures.parts
          c.in-Some.is c.loop-split.invariant.so_far c.in_ok-push_behind.ensures.ok;
      follows = subst (λ o. IfSome o (λ s. Follows c.args.inputs.now.content.now s.rest)) c.in-Some.is c.in_ok-split.ensures.follows;
    }

pub loop-split-preserved : goal.loop-split-preserved
loop-split-preserved c =
    let pair = pair_of c.args.inputs.now c.args.joiner.now c.args.path.now in
    record {
      so_far = behind_next c.args.inputs.now.content.now _ _ c.args.separator.now pair (places_of c.args.inputs.now.content.now c.loop-split.rest)
          c.in_ok-split.field-0 c.in-Some.split c.args.out.now.items c.loop-split.out.items c.push_behind.new.out.items c.in_ok-split.ensures.parts
          c.in-Some.is c.loop-split.invariant.so_far c.in_ok-push_behind.ensures.ok;
      follows = subst (λ o. IfSome o (λ s. Follows c.args.inputs.now.content.now s.rest)) c.in-Some.is c.in_ok-split.ensures.follows;
    }

pub returns-in_err-push_behind-clause-err : goal.returns-in_err-push_behind-clause-err
returns-in_err-push_behind-clause-err c =
    let x = err_from_is_err_and c.from_residual-in_err-push_behind.result c.from_residual-in_err-push_behind.ensures.1 in
    let pair = pair_of c.args.inputs.now c.args.joiner.now c.args.path.now in
    rw (x.1, x.2) (λ k. behind_fails c.args.inputs.now.content.now _ _ c.args.separator.now pair (places_of c.args.inputs.now.content.now c.loop-split.rest)
    c.in_ok-split.field-0 c.in-Some.split
    c.args.out.now.items c.loop-split.out.items _ c.in_ok-split.ensures.parts c.in-Some.is c.loop-split.invariant.so_far (c.in_err-push_behind.ensures.err k))

pub returns-clause-ok : goal.returns-clause-ok
returns-clause-ok c =
    let pair = pair_of c.args.inputs.now c.args.joiner.now c.args.path.now in
    behind_done c.args.inputs.now.content.now _ _ c.args.separator.now pair (places_of c.args.inputs.now.content.now c.loop-split.rest) c.in_ok-split.field-0
    c.args.out.now.items c.loop-split.out.items c.in_ok-split.ensures.parts c.in_default.is c.loop-split.invariant.so_far

pub split_first-requires : goal.split_first-requires
split_first-requires c = c.loop-split.invariant.follows
