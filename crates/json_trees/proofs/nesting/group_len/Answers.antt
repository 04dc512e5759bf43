use Rattle.std.proofs.Common.{rules, ◌≡◌, ◌≢◌, ℕ, ◌<◌, take, length, ap, sym, ◌∙◌, subst, arith}
use Rattle.std.specs.List.{AllByRecursion}
use Rattle.std.specs.Map.{keys_of}
use Rattle.json_trees.specs.Nested.{name_of}
use Rattle.json_trees.proofs.Groups.{key_at, key_more, group_of, later_names, first_name-at}
use Rattle.json_trees.proofs.nesting.group_len.Goals as goal

pub segment-requires : goal.segment-requires
segment-requires g c = rw c.index-pairs-index.is (key_at (λ key. c.args.level < length key) c.args.pairs.now c.loop-index.index c.index-pairs-index.result
    c.requires.nestable.longer c.loop-index-test.true)

pub returns-then-ne-clause-same : goal.returns-then-ne-clause-same
returns-then-ne-clause-same g c = group_of c.args.level c.segment-name.result.now (keys_of (take c.loop-index.index c.args.pairs.now)) c.loop-index.invariant

pub returns-clause-same : goal.returns-clause-same
returns-clause-same g c =
    let pairs = c.args.pairs.now in
    let all : c.loop-index.index ≡ length pairs = omega arith in
    let P = λ (n : ℕ). AllByRecursion (λ key. name_of c.args.level key ≡ c.segment-name.result.now) (keys_of (take n pairs)) in
    group_of c.args.level c.segment-name.result.now (keys_of (take (length pairs) pairs)) (subst P all c.loop-index.invariant)

pub loop-index-preserved : goal.loop-index-preserved
loop-index-preserved g c =
    let same : c.segment.result.now ≡ c.segment-name.result.now = search rules in
    key_more (λ key. name_of c.args.level key ≡ c.segment-name.result.now) c.args.pairs.now c.loop-index.index c.index-pairs-index.result c.loop-index-test.true
    c.loop-index.invariant
    (ap (λ p. name_of c.args.level p.0) (sym c.index-pairs-index.is) ∙ sym c.segment.ensures.bytes ∙ same)

pub returns-then-ne-clause-later : goal.returns-then-ne-clause-later
returns-then-ne-clause-later g c =
    let level = c.args.level in
    let other : c.segment.result.now ≢ c.segment-name.result.now = search rules in
    later_names level c.args.pairs.now c.loop-index.index c.index-pairs-index.result c.requires.nestable c.loop-index-test.true
    (λ e. other
    (c.segment.ensures.bytes ∙ ap (λ p. name_of level p.0) c.index-pairs-index.is ∙ e ∙ first_name-at level c.args.pairs.now c.index-pairs-0.result
    c.requires.some ∙ sym c.segment-name.ensures.bytes))
