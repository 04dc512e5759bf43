use Rattle.std.proofs.Common.{arith, ◌∙◌, sym, ap, is_some, ◌-◌}
use Rattle.metadata_links.specs.Nearest.{has_list}
use Rattle.metadata_links.proofs.Counts.{greatest_miss, near_found, near_at, steps_found, steps_more}
use Rattle.metadata_links.proofs.index.Index.nearest.Goals as goal

pub returns-in-Some-clause-list : goal.returns-in-Some-clause-list
returns-in-Some-clause-list c = near_found c.args.self.now c.args.key.now c.loop-len.len c.in-Some.list.now c.loop-len-test.true c.loop-len.invariant.so_far
    (sym c.in-Some.ensures.list)

pub returns-in-Some-clause-counted : goal.returns-in-Some-clause-counted
returns-in-Some-clause-counted c = steps_found c.args.self.now c.args.key.now c.args.probes.now c.loop-len.probes _ c.loop-len.len c.loop-len-test.true
    c.loop-len.invariant.within
    (near_at c.args.self.now c.args.key.now c.loop-len.len c.loop-len-test.true c.loop-len.invariant.so_far (ap is_some (sym c.in-Some.ensures.list)))
    c.loop-len.invariant.counted c.in-Some.ensures.counted

pub loop-len-preserved : goal.loop-len-preserved
loop-len-preserved c = record {
  within = omega arith;
  so_far = sym (greatest_miss (has_list c.args.self.now c.args.key.now) c.loop-len.len (c.loop-len.len - 1) (omega arith)
      (ap is_some (sym c.in-None.ensures.list))) ∙ c.loop-len.invariant.so_far;
  counted = steps_more c.args.self.now c.args.key.now c.args.probes.now c.loop-len.probes _ c.loop-len.len c.loop-len-test.true c.loop-len.invariant.within
      c.loop-len.invariant.counted c.in-None.ensures.counted;
}
