use Rattle.release_file.proofs.Farthest.{leads_pushed, fewer_left}
use Rattle.release_file.proofs.chain.chain_of.Goals as goal

pub loop-at-smaller : goal.loop-at-smaller
loop-at-smaller c = fewer_left c.args.all.now c.loop-at.at c.args.target.now c.in-Some.next.now c.requires c.in-Some.ensures.some

pub loop-at-preserved : goal.loop-at-preserved
loop-at-preserved c =
    leads_pushed c.args.all.now c.args.target.now c.args.from.now c.loop-at.at c.loop-at.chain.items c.push.new.self.items c.in-Some.next (λ t. t.now)
    c.in_ok-push.ensures.items c.loop-at.invariant c.in-Some.ensures.some
