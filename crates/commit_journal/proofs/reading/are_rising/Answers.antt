use Rattle.std.proofs.Common.{arith, rules}
use Rattle.commit_journal.proofs.Readings.{rising_step, falls_step}
use Rattle.commit_journal.proofs.reading.are_rising.Goals as goal

pub returns-then-not-is_before : goal.returns-then-not-is_before
returns-then-not-is_before c = falls_step c.args.entries.now c.loop-i.i _ _ (omega (arith, c.loop-i.auto.i)) c.loop-i-test.true c.index-entries-i.is
    c.index-entries-i-in-loop-i.is (search rules)

pub loop-i-preserved : goal.loop-i-preserved
loop-i-preserved c = rising_step c.args.entries.now c.loop-i.i _ _ (omega (arith, c.loop-i.auto.i)) c.loop-i-test.true c.index-entries-i.is
    c.index-entries-i-in-loop-i.is (search rules) c.loop-i.invariant
