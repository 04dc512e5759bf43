use Rattle.std.proofs.Common.{◌∙◌}
use Rattle.version_links.proofs.First.{first_free, taken_more}
use Rattle.version_links.proofs.fresh.first_free.Goals as goal

pub returns-then-free-clause-first : goal.returns-then-free-clause-first
returns-then-free-clause-first g c = first_free _ _ c.loop-id.invariant.same c.args.version.now c.loop-id.id c.in_ok-free.free c.in_ok-free.ensures.free
    c.loop-id.invariant.taken c.if-free.true

pub loop-id-preserved : goal.loop-id-preserved
loop-id-preserved g c = record {
  same = c.in_ok-free.ensures.same ∙ c.loop-id.invariant.same;
  count = c.in_ok-free.ensures.cause.kept ∙ c.loop-id.invariant.count;
  taken = taken_more _ _ c.loop-id.invariant.same c.args.version.now c.loop-id.id c.in_ok-free.free c.in_ok-free.ensures.free c.loop-id.invariant.taken
      c.if-free.false;
}
