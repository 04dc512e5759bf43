use Rattle.std.proofs.Common.{sym, ◌∙◌, ap, List}
use Rattle.std.specs.Prelude.{option_map}
use Rattle.std.specs.BTreeMap.{get}
use Rattle.std.specs.Slice.Iter.{iter_rest}
use Rattle.outside.specs.Names.{Names, path_cmp}
use Rattle.disk_memory.specs.Nodes.{node_of}
use Rattle.disk_memory.specs.declared.change.Touch.{Touch}
use Rattle.disk_memory.proofs.Picks.{after_picks, picks_step, picks_more, picks_laid}
use Rattle.disk_memory.proofs.crash.lay_picks.Goals as goal

pub loop-path-preserved : goal.loop-path-preserved
loop-path-preserved c =
    picks_more _ c.next.new.self _ _ _ c.in-Some.path.now c.in-Some.touch.now c.loop-path.nodes c.lay_pick.new.nodes _ c.in-Some.ensures.steps
    (picks_step c.loop-path.choices c.next-in-loop-path.new.self c.next-in-loop-path.result c.next-in-loop-path.ensures.steps) c.in_ok-lay_pick.ensures
    c.loop-path.invariant

pub returns : goal.returns
returns c =
    picks_laid c.args.picks.now c.args.touches.now c.args.nodes.now c.loop-path.nodes c.iter-path-items.ensures.ordered
    (λ q. ap (λ (es : List (Names × Touch)). after_picks es (iter_rest c.loop-path.choices) (λ p. option_map node_of (get path_cmp c.loop-path.nodes p)) q)
    (sym c.in-None.ensures.steps.0) ∙ c.loop-path.invariant q)
