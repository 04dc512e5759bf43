use Rattle.std.proofs.Common.{◌≡◌, ◌≢◌, ◌+◌, length, arith}
use Rattle.key_names.specs.Spelling.{IsSpelling}
use Rattle.key_names.proofs.Parts.{Leads-none, joins_whole, leads_more}
use Rattle.key_names.proofs.Marks.{begins_here, AreMarked-none, AreMarked-push}
use Rattle.key_names.proofs.spelled.spelled_by.Goals as goal

pub loop-head-init : goal.loop-head-init
loop-head-init c = record {
  within = omega arith;
  leads = Leads-none IsSpelling 46 c.args.text.now c.new-spelled.result.segments c.new-spelled.ensures.segments;
  marked = AreMarked-none c.args.text.now c.new-spelled.result.segments c.new-spelled.result.surplus c.new-spelled.result.overlong
      c.new-spelled.ensures.segments c.new-spelled.ensures.surplus c.new-spelled.ensures.overlong;
}

pub returns-then-start-text-clause-spelled : goal.returns-then-start-text-clause-spelled
returns-then-start-text-clause-spelled c =
    let head = rw c.split_at.ensures.back at c.in-Ok.ensures.ok in
    let ends : c.loop-head.start + length head.spelling ≡ length c.args.text.now = omega (arith, head.len_is, c.if-start-text.true) in
    rw c.in_ok-spelled.ensures.segments
    (joins_whole IsSpelling 46 c.args.text.now c.loop-head.spelled.segments c.loop-head.start c.loop-head.invariant.within c.loop-head.invariant.leads
    c.in-Ok.head.segment.now head.spelling head.rest head.text_is head.spelled ends)

pub returns-then-start-text-clause-marked : goal.returns-then-start-text-clause-marked
returns-then-start-text-clause-marked c =
    let begins = begins_here c.args.text.now c.loop-head.spelled.segments c.loop-head.start c.loop-head.invariant.within c.loop-head.invariant.leads in
    rw (c.in_ok-spelled.ensures.segments, c.in_ok-spelled.ensures.surplus, c.in_ok-spelled.ensures.overlong)
    (AreMarked-push c.args.text.now c.loop-head.spelled.segments c.in-Ok.head.segment.now c.loop-head.start begins
    c.loop-head.spelled.surplus c.loop-head.spelled.overlong c.loop-head.invariant.marked)

pub loop-head-preserved : goal.loop-head-preserved
loop-head-preserved c =
    let begins = begins_here c.args.text.now c.loop-head.spelled.segments c.loop-head.start c.loop-head.invariant.within c.loop-head.invariant.leads in
    let head = rw c.split_at.ensures.back at c.in-Ok.ensures.ok in
    let goes_on : c.loop-head.start + length head.spelling ≢ length c.args.text.now = omega (arith, head.len_is, c.if-start-text.false) in
    record {
      within = omega (arith, c.in-Ok.ensures.within, c.if-start-text.false);
      leads =
          rw (c.in_ok-spelled.ensures.segments, head.len_is)
          (leads_more IsSpelling 46 c.args.text.now c.loop-head.spelled.segments c.loop-head.start c.loop-head.invariant.within c.loop-head.invariant.leads
          c.in-Ok.head.segment.now head.spelling head.rest head.text_is head.spelled goes_on head.ends);
      marked =
          rw (c.in_ok-spelled.ensures.segments, c.in_ok-spelled.ensures.surplus, c.in_ok-spelled.ensures.overlong)
          (AreMarked-push c.args.text.now c.loop-head.spelled.segments c.in-Ok.head.segment.now c.loop-head.start begins
          c.loop-head.spelled.surplus c.loop-head.spelled.overlong c.loop-head.invariant.marked);
    }
