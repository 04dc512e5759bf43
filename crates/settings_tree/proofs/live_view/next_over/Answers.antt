use Rattle.std.proofs.Common.{Option, Some, None, subst}
use Rattle.std.specs.Prelude.{IfNone}
use Rattle.std.specs.Option.{option_copied}
use Rattle.std.proofs.lemmas.Option.{IfSome_then}
use Rattle.settings_tree.specs.Over.{laid_over}
use Rattle.settings_tree.specs.Walks.{IsLeastBelow}
use Rattle.settings_tree.proofs.Over.{passed_none, least_passed, none_passed, live_first, put_first, removal_passed, live_left, none_left}
use Rattle.settings_tree.proofs.Walks.{walk_below_falls}
use Rattle.settings_tree.proofs.live_view.next_over.Goals as goal

pub loop-key-init : goal.loop-key-init
loop-key-init c = passed_none (laid_over c.args.live.now c.args.over.now).values c.args.prefix.now (option_copied c.args.after)

pub returns-in-Some-live_before-clause-least : goal.returns-in-Some-live_before-clause-least
returns-in-Some-live_before-clause-least c =
    let live = c.args.live.now in
    let over = c.args.over.now in
    let prefix = c.args.prefix.now in
    let last = option_copied c.loop-key.last in
    let before = c.in-Some-live_before in
    least_passed (laid_over live over).values prefix (option_copied c.args.after) last before.before.now before.value.now c.loop-key.invariant
    (live_first live over prefix last before.before.now c.in-Some.key.now before.value.now c.in-Some.pending.now before.ensures.least c.in-Some.ensures.least
    before.ensures.before)

pub returns-in-Put-clause-least : goal.returns-in-Put-clause-least
returns-in-Put-clause-least c =
    let live = c.args.live.now in
    let over = c.args.over.now in
    let prefix = c.args.prefix.now in
    let last = option_copied c.loop-key.last in
    let key = c.in-Some.key.now in
    least_passed (laid_over live over).values prefix (option_copied c.args.after) last key c.in-Put.value c.loop-key.invariant
    (put_first live over prefix last key c.in-Put.value
    (subst (IsLeastBelow over prefix last key) c.in-Put.is c.in-Some.ensures.least) c.in_default-live_before.ensures.none)

pub loop-key-smaller : goal.loop-key-smaller
loop-key-smaller c = walk_below_falls c.args.over.now c.args.prefix.now (option_copied c.loop-key.last) c.in-Some.key.now c.in-Some.pending.now
    c.in-Some.ensures.least

pub loop-key-preserved : goal.loop-key-preserved
loop-key-preserved c =
    let last = option_copied c.loop-key.last in
    let key = c.in-Some.key.now in
    removal_passed c.args.live.now c.args.over.now c.args.prefix.now last (option_copied c.args.after) key
    (subst (IsLeastBelow c.args.over.now c.args.prefix.now last key) c.in-Gone.is c.in-Some.ensures.least) c.in_default-live_before.ensures.none
    c.loop-key.invariant

pub returns-clause-least : goal.returns-clause-least
returns-clause-least c =
    let live = c.args.live.now in
    let over = c.args.over.now in
    let prefix = c.args.prefix.now in
    let last = option_copied c.loop-key.last in
    IfSome_then c.next_below-2.result c.next_below-2.ensures.least
    (λ e least. least_passed (laid_over live over).values prefix (option_copied c.args.after) last e.0.now e.1.now c.loop-key.invariant
    (live_left live over prefix last e.0.now e.1.now c.in_default.ensures.none least))

if_none : {X : Type 0} (o : Option X) {P Q : Type 0} → IfNone o P → (P → Q) → IfNone o Q
if_none None h f = f h
if_none (Some x) h f = tt

pub returns-clause-none : goal.returns-clause-none
returns-clause-none c =
    let live = c.args.live.now in
    let over = c.args.over.now in
    let prefix = c.args.prefix.now in
    let last = option_copied c.loop-key.last in
    if_none c.next_below-2.result c.next_below-2.ensures.none
    (λ none. none_passed (laid_over live over).values prefix (option_copied c.args.after) last c.loop-key.invariant
    (none_left live over prefix last c.in_default.ensures.none none))
