use Rattle.std.proofs.Common.{List, subst, sym}
use Rattle.std.specs.Map.{keys_of}
use Rattle.json_trees.specs.Apart.{AreApart}
use Rattle.json_trees.specs.Nested.{ShareFirst}
use Rattle.change_words.specs.Said.{Change}
use Rattle.change_words.proofs.Trees.{apart, shared, below}
use Rattle.change_words.proofs.Words.{is_body}
use Rattle.change_words.proofs.body.nested.Goals as goal

pub nest_pending-requires-clause-apart : goal.nest_pending-requires-clause-apart
nest_pending-requires-clause-apart c = subst (λ (cs : List Change). AreApart (keys_of cs)) (sym c.deref.ensures.value)
    (apart c.args.changes.items c.in_ok-sorted.sorted.items c.requires c.in_ok-sorted.ensures.moved c.in_ok-sorted.ensures.sorted)

pub nest_pending-requires-clause-shared : goal.nest_pending-requires-clause-shared
nest_pending-requires-clause-shared c = subst (λ (cs : List Change). ShareFirst 1 (keys_of cs)) (sym c.deref.ensures.value)
    (shared c.args.changes.items c.in_ok-sorted.sorted.items c.requires c.in_ok-sorted.ensures.moved)

pub returns : goal.returns
returns c =
    is_body c.args.changes.items c.in_ok-sorted.sorted.items c.deref.result.now c.nest_pending.result c.deref.ensures.value c.in_ok-sorted.ensures.moved
    (below c.args.changes.items c.in_ok-sorted.sorted.items c.requires c.in_ok-sorted.ensures.moved) c.nest_pending.ensures.tree
    c.nest_pending.ensures.flattens_back
