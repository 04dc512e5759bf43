use Rattle.std.proofs.Common.{[], ◌∷◌, ◌∙◌}
use Rattle.std.proofs.lemmas.Result.{on_ok_weaker}
use Rattle.std.specs.FinMap.{entries}
use Rattle.json_trees.specs.Nested.{IsSound}
use Rattle.held_text.specs.HeldText.{pair_data}
use Rattle.held_text.proofs.HeldWalks.{writing_none, writing_next, writing_all, valid_all, flat_map-same}
use Rattle.held_text.proofs.JsonLists.{list_written, one_written}
use Rattle.held_text.proofs.writing.write_map.Goals as goal

pub loop-key-init : goal.loop-key-init
loop-key-init g c = writing_none _ _ _ _ _ _ (c.into_iter-key-iterator.ensures.into_iter_gives ∙ c.iter-key-items.ensures)

pub loop-key-preserved : goal.loop-key-preserved
loop-key-preserved g c =
    writing_next (λ e. e ∷ []) (pair_data g.L.Leaf.written) (IsSound g.L.Leaf.leaf g.L.Leaf.written) _ _ _ (c.in-Some.key.now, c.in-Some.leaf.now) _ _ _
    c.loop-key.invariant c.in-Some.ensures.steps (one_written (pair_data g.L.Leaf.written) _ _ _ c.in_ok-write_pair.ensures.wrote)
    (c.in_ok-write_pair.ensures.valid, tt)

pub returns-clause-wrote : goal.returns-clause-wrote
returns-clause-wrote g c =
    list_written (pair_data g.L.Leaf.written) c.end_array.result (entries c.args.map.now) _ _ _ _ c.in_ok-begin_array.ensures.ok
    c.in_ok-begin_array.ensures.room.0
    (writing_all (λ e. e ∷ []) (pair_data g.L.Leaf.written) (IsSound g.L.Leaf.leaf g.L.Leaf.written) _ _ _ _ _ c.loop-key.invariant c.in-None.ensures.steps.0
    (flat_map-same (entries c.args.map.now)))
    c.end_array.ensures

pub returns-clause-valid : goal.returns-clause-valid
returns-clause-valid g c =
    on_ok_weaker c.end_array.result
    (λ _. valid_all (λ e. e ∷ []) (pair_data g.L.Leaf.written) (IsSound g.L.Leaf.leaf g.L.Leaf.written) _ _ _ _ _ c.loop-key.invariant
    c.in-None.ensures.steps.0 (flat_map-same (entries c.args.map.now)))
    c.end_array.ensures.ok
