use Rattle.std.proofs.Common.{ap, map, filter}
use Rattle.std.specs.Option.{option_copied}
use Rattle.key_names.specs.Order.{key_total, key_cmp-IsAntisymmetric}
use Rattle.settings_tree.proofs.Walks.{walk_start, walk_next, walk_end, walk_falls, listed_all}
use Rattle.pending_tx.proofs.Walked.{begun, added_more}
use Rattle.api_core.specs.Gathered.{has_near, near_entry}
use Rattle.api_core.proofs.nearest.lists_of.Goals as goal

pub loop-key-init : goal.loop-key-init
loop-key-init c = begun _ _ _ (ap (map (λ e. (e.0, e.1.items))) c.new-lists.ensures.items)
    (ap (λ es. map (near_entry c.args.index.now) (filter (has_near c.args.index.now) es)) (walk_start key_total key_cmp-IsAntisymmetric c.args.once.now))

pub loop-key-smaller : goal.loop-key-smaller
loop-key-smaller c = walk_falls key_total key_cmp-IsAntisymmetric c.args.once.now (option_copied c.loop-key.after) c.in-Some.key.now _ c.in-Some.ensures.least

pub loop-key-preserved : goal.loop-key-preserved
loop-key-preserved c = added_more (has_near c.args.index.now) (near_entry c.args.index.now) _ _ _ _ _ (c.in-Some.key.now, tt) c.loop-key.invariant
    (walk_next key_total key_cmp-IsAntisymmetric c.args.once.now (option_copied c.loop-key.after) c.in-Some.key.now _ c.in-Some.ensures.least)
    c.in_ok-push_nearest.ensures

pub returns : goal.returns
returns c = listed_all _ _ _ c.loop-key.invariant (ap (λ es. map (near_entry c.args.index.now) (filter (has_near c.args.index.now) es))
    (walk_end key_total key_cmp-IsAntisymmetric c.args.once.now (option_copied c.loop-key.after) c.in_default.ensures.none))
