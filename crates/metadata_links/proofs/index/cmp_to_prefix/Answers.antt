use Rattle.std.proofs.Common.{arith, ◌<◌, ◌+◌, ◌∷◌, [], List, ℕ, length, drop, take, sym, ◌∙◌, ap}
use Rattle.std.proofs.lemmas.List.{drop_more, get_or-take, length-take-le}
use Rattle.metadata_links.proofs.Counts.{differs_at, ties_at, through_at}
use Rattle.metadata_links.proofs.index.cmp_to_prefix.Goals as goal

pub returns-then-is_ne : goal.returns-then-is_ne
returns-then-is_ne c =
    let i = c.loop-i.i in
    let own = c.args.own.now in
    let first = take c.args.len c.args.key.now in
    let low : i < length own = omega arith in
    let under : i < c.args.len = omega arith in
    let within : i < length first = omega (arith, length-take-le c.args.len c.args.key.now c.requires) in
    differs_at (drop i own) (drop i first) c.segment.result.now c.segment-in-loop-i.result.now (drop (i + 1) own) (drop (i + 1) first) c.cmp-order.result _
    (drop_more own i [] low ∙ ap (λ (s : List ℕ). s ∷ drop (i + 1) own) (sym c.segment.ensures.bytes))
    (drop_more first i [] within ∙ ap (λ (s : List ℕ). s ∷ drop (i + 1) first)
    (get_or-take c.args.len c.args.key.now i [] under ∙ sym c.segment-in-loop-i.ensures.bytes))
    c.cmp-order.ensures (sym c.is_ne.ensures ∙ c.if-is_ne.true) c.loop-i.invariant

pub loop-i-preserved : goal.loop-i-preserved
loop-i-preserved c =
    let i = c.loop-i.i in
    let own = c.args.own.now in
    let first = take c.args.len c.args.key.now in
    let low : i < length own = omega arith in
    let under : i < c.args.len = omega arith in
    let within : i < length first = omega (arith, length-take-le c.args.len c.args.key.now c.requires) in
    ties_at (drop i own) (drop i first) c.segment.result.now c.segment-in-loop-i.result.now (drop (i + 1) own) (drop (i + 1) first) c.cmp-order.result _
    (drop_more own i [] low ∙ ap (λ (s : List ℕ). s ∷ drop (i + 1) own) (sym c.segment.ensures.bytes))
    (drop_more first i [] within ∙ ap (λ (s : List ℕ). s ∷ drop (i + 1) first)
    (get_or-take c.args.len c.args.key.now i [] under ∙ sym c.segment-in-loop-i.ensures.bytes))
    c.cmp-order.ensures (sym c.is_ne.ensures ∙ c.if-is_ne.false) c.loop-i.invariant

pub returns : goal.returns
returns c =
    let first : List (List ℕ) = take c.args.len c.args.key.now in
    c.cmp.ensures ∙ through_at c.args.own.now first c.loop-i.i c.len-most.result c.args.len (sym c.len-most.ensures.count)
    (length-take-le c.args.len c.args.key.now c.requires) (omega arith) c.loop-i.invariant (omega arith)
