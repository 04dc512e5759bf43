use Rattle.metadata_links.proofs.Counts.{named_more, counted_more, between_low}
use Rattle.metadata_links.proofs.index.Index.put_nearest.Goals as goal

pub loop-key-preserved : goal.loop-key-preserved
loop-key-preserved c = record {
  named = named_more c.args.self.now c.args.keys.now c.loop-key.key-index c.key-item.result c.loop-key-test.true c.key-item.is c.loop-key.services _
      c.nearest.result.now _ c.loop-key.invariant.named c.nearest.ensures.list c.in_ok-add_all.ensures;
  counted = counted_more c.args.self.now c.args.keys.now c.loop-key.key-index c.key-item.result c.loop-key-test.true c.key-item.is c.loop-key.probes _ _
      c.loop-key.invariant.counted c.nearest.ensures.counted;
  kept = between_low c.args.self.now c.args.keys.now c.loop-key.key-index c.key-item.result c.loop-key-test.true c.key-item.is c.args.probes.now
      c.loop-key.probes _ c.loop-key.invariant.kept c.nearest.ensures.counted;
}
