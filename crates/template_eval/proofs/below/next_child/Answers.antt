use Rattle.std.proofs.Common.{◌≡◌, ℕ, Some, sym, subst}
use Rattle.std.specs.Prelude.{slice_get}
use Rattle.std.proofs.lemmas.Bool.{both_ways}
use Rattle.settings_tree.proofs.Walks.{walk_below_falls}
use Rattle.template_eval.proofs.NextNames.{next_is, none_is}
use Rattle.template_eval.proofs.below.next_child.Goals as goal

pub returns-then-not-is_same_name-clause-next : goal.returns-then-not-is_same_name-clause-next
returns-then-not-is_same_name-clause-next c =
    next_is c.args.content.now.values c.args.parent.now c.args.after.now c.loop-key.last.now c.requires.begins c.loop-key.invariant.0 c.loop-key.invariant.1
    c.in-Some.key.now _ c.in-Some.ensures.least
    (λ e. both_ways _ c.if-not-is_same_name.true (c.is_same_name.ensures.1
    (let P : ℕ → Type 0 = λ n. slice_get c.args.after.now n ≡ slice_get c.in-Some.key.now n in subst P (sym c.len.ensures.count) e)))

pub loop-key-smaller : goal.loop-key-smaller
loop-key-smaller c = walk_below_falls c.args.content.now.values c.args.parent.now (Some c.loop-key.last.now) c.in-Some.key.now _ c.in-Some.ensures.least

pub returns-clause-none : goal.returns-clause-none
returns-clause-none c = none_is c.args.content.now.values c.args.parent.now c.args.after.now c.loop-key.last.now c.requires.begins c.loop-key.invariant.0
    c.loop-key.invariant.1 c.in_default.ensures.none
