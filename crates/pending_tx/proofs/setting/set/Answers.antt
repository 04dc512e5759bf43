use Rattle.std.proofs.Common.{sym, subst}
use Rattle.pending_tx.specs.Transactions.{last_of}
use Rattle.pending_tx.proofs.Commits.{CommitsTo, puts_fit, set_made}
use Rattle.pending_tx.proofs.setting.set.Goals as goal

made : (c : goal.In_ok-overlaid) → CommitsTo c.args.held.now (last_of c.args.pairs.now) c.args.held.now.pending c.in_ok-overlaid.overlaid.entries.items
made c = set_made c.args.held.now (last_of c.args.pairs.now) c.new.result.items c.in_ok-overlaid.overlaid.entries.items c.new.ensures.items
    c.in_ok-overlaid.ensures.valid c.in_ok-overlaid.ensures.added

pub of-requires-clause-once : goal.of-requires-clause-once
of-requires-clause-once c = (made c).once

pub of-requires-clause-names : goal.of-requires-clause-names
of-requires-clause-names c = (made c).bare

kept : (c : goal.After-of) → CommitsTo c.args.held.now (last_of c.args.pairs.now) c.args.held.now.pending c.of.result
kept c = subst (CommitsTo c.args.held.now (last_of c.args.pairs.now) c.args.held.now.pending) (sym c.of.ensures)
    (set_made c.args.held.now (last_of c.args.pairs.now) c.new.result.items c.in_ok-overlaid.overlaid.entries.items c.new.ensures.items
    c.in_ok-overlaid.ensures.valid c.in_ok-overlaid.ensures.added)

pub returns-clause-laid : goal.returns-clause-laid
returns-clause-laid c = (kept c).gives

pub returns-clause-rule : goal.returns-clause-rule
returns-clause-rule c = λ rule fit. (kept c).rule rule (puts_fit c.args.held.now (last_of c.args.pairs.now) fit) rule.pending

pub returns-clause-weak : goal.returns-clause-weak
returns-clause-weak c = (kept c).weak

pub returns-clause-told : goal.returns-clause-told
returns-clause-told c = (kept c).told

pub returns-clause-strong : goal.returns-clause-strong
returns-clause-strong c = (kept c).strong

pub returns-clause-changes : goal.returns-clause-changes
returns-clause-changes c = (kept c).changes
