use Rattle.std.proofs.Common.{arith, ◌∙◌, sym, ap, is_some, ◌-◌}
use Rattle.metadata_links.specs.Nearest.{has_list}
use Rattle.metadata_links.proofs.Counts.{greatest_miss, near_found, near_at}
use Rattle.api_core.proofs.NearLists.{found_is, none_is}
use Rattle.api_core.proofs.nearest.nearest.Goals as goal

pub returns-in-Some : goal.returns-in-Some
returns-in-Some c = found_is c.args.index.now c.args.key.now c.loop-len.len c.in-Some.list.now c.loop-len-test.true
    (near_found c.args.index.now c.args.key.now c.loop-len.len c.in-Some.list.now c.loop-len-test.true c.loop-len.invariant.so_far (sym c.in-Some.ensures.list))
    (near_at c.args.index.now c.args.key.now c.loop-len.len c.loop-len-test.true c.loop-len.invariant.so_far (ap is_some (sym c.in-Some.ensures.list)))

pub loop-len-preserved : goal.loop-len-preserved
loop-len-preserved c = record {
  within = omega arith;
  so_far = sym (greatest_miss (has_list c.args.index.now c.args.key.now) c.loop-len.len (c.loop-len.len - 1) (omega arith)
      (ap is_some (sym c.in-None.ensures.list)))
      ∙ c.loop-len.invariant.so_far;
}

pub returns : goal.returns
returns c = none_is c.args.index.now c.args.key.now c.loop-len.len c.loop-len-test.false c.loop-len.invariant.so_far
