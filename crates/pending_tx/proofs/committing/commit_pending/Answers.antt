use Rattle.std.proofs.Common.{◌≡◌, sym, ◌∙◌, ap, subst, filter, map}
use Rattle.std.specs.FinMap.{get, remove}
use Rattle.settings_maps.specs.Maps.{inner}
use Rattle.pending_tx.specs.Transactions.{changes_of, differs, pending_of}
use Rattle.pending_tx.proofs.Commits.{CommitsTo, commit_made, puts_fit}
use Rattle.pending_tx.proofs.Ended.{removed_free}
use Rattle.pending_tx.proofs.Endings.{ended_made}
use Rattle.settings_tree.proofs.Rising.{some_rise}
use Rattle.pending_tx.proofs.committing.commit_pending.Goals as goal

pub keys_in-requires : goal.keys_in-requires
keys_in-requires c = some_rise (inner c.args.held.now.pending c.args.tx.now) (λ e. differs e.1 (get c.args.held.now.live.values e.0)) _
    (ap (map (λ e. e.0)) (c.deref.ensures.value ∙ c.changes_in-changes.ensures
    ∙ ap (filter (λ e. differs e.1 (get c.args.held.now.live.values e.0))) c.in_ok-pending.ensures.pairs))

changes : (c : goal.In_ok-push_commit) → c.changes_in-changes.result.items ≡ changes_of c.args.held.now c.args.tx.now
changes c = c.changes_in-changes.ensures ∙ ap (filter (λ e. differs e.1 (get c.args.held.now.live.values e.0))) c.in_ok-pending.ensures.pairs

made : (c : goal.In_ok-push_commit) → CommitsTo c.args.held.now (pending_of c.args.held.now c.args.tx.now)
    (remove c.args.held.now.pending c.args.tx.now) c.push_commit.new.entries.items
made c = commit_made c.args.held.now (pending_of c.args.held.now c.args.tx.now) (remove c.args.held.now.pending c.args.tx.now) c.end.new.entries.items
    c.in_ok-keys.keys c.in_ok-changed.changed c.changes_in-changes.result.items c.new-entries.result.items c.push_commit.new.entries.items
    (ended_made c.args.held.now c.args.tx.now c.new-ended.result.items c.end.new.entries.items c.in_ok-keys.keys c.in_ok-keys.ensures.valid
    c.new-ended.ensures.items c.in_ok-keys.ensures.keys c.in_ok-end.ensures) c.in_ok-push_commit.ensures.valid c.new-entries.ensures.items
    c.in_ok-keys.ensures.keys (c.in_ok-changed.ensures ∙ ap (map (λ e. e.0)) (c.deref.ensures.value ∙ changes c)) (changes c)
    c.in_ok-push_commit.ensures.added

pub of-change-requires-clause-once : goal.of-change-requires-clause-once
of-change-requires-clause-once c = (made c).once

pub of-change-requires-clause-names : goal.of-change-requires-clause-names
of-change-requires-clause-names c = (made c).bare

kept : (c : goal.After-of-change) → CommitsTo c.args.held.now (pending_of c.args.held.now c.args.tx.now)
    (remove c.args.held.now.pending c.args.tx.now) c.of-change.result
kept c = subst (CommitsTo c.args.held.now (pending_of c.args.held.now c.args.tx.now) (remove c.args.held.now.pending c.args.tx.now)) (sym c.of-change.ensures)
    (commit_made c.args.held.now (pending_of c.args.held.now c.args.tx.now) (remove c.args.held.now.pending c.args.tx.now) c.end.new.entries.items
    c.in_ok-keys.keys c.in_ok-changed.changed c.changes_in-changes.result.items c.new-entries.result.items c.push_commit.new.entries.items
    (ended_made c.args.held.now c.args.tx.now c.new-ended.result.items c.end.new.entries.items c.in_ok-keys.keys c.in_ok-keys.ensures.valid
    c.new-ended.ensures.items c.in_ok-keys.ensures.keys c.in_ok-end.ensures) c.in_ok-push_commit.ensures.valid c.new-entries.ensures.items
    c.in_ok-keys.ensures.keys (c.in_ok-changed.ensures ∙ ap (map (λ e. e.0)) (c.deref.ensures.value
    ∙ c.changes_in-changes.ensures ∙ ap (filter (λ e. differs e.1 (get c.args.held.now.live.values e.0))) c.in_ok-pending.ensures.pairs))
    (c.changes_in-changes.ensures ∙ ap (filter (λ e. differs e.1 (get c.args.held.now.live.values e.0))) c.in_ok-pending.ensures.pairs)
    c.in_ok-push_commit.ensures.added)

pub returns-clause-keys : goal.returns-clause-keys
returns-clause-keys c = c.in_ok-keys.ensures.keys

pub returns-clause-changed : goal.returns-clause-changed
returns-clause-changed c = c.in_ok-changed.ensures ∙ ap (map (λ e. e.0)) (c.deref.ensures.value ∙ c.changes_in-changes.ensures
    ∙ ap (filter (λ e. differs e.1 (get c.args.held.now.live.values e.0))) c.in_ok-pending.ensures.pairs)

pub returns-clause-laid : goal.returns-clause-laid
returns-clause-laid c = (kept c).gives

pub returns-clause-rule : goal.returns-clause-rule
returns-clause-rule c = λ rule fit. (kept c).rule rule (puts_fit _ _ (record { fits = fit.fits; free = rule.pending c.args.tx.now }))
    (removed_free c.args.held.now.pending c.args.tx.now rule.pending)

pub returns-clause-weak : goal.returns-clause-weak
returns-clause-weak c = (kept c).weak

pub returns-clause-told : goal.returns-clause-told
returns-clause-told c = (kept c).told

pub returns-clause-strong : goal.returns-clause-strong
returns-clause-strong c = (kept c).strong

pub returns-clause-changes : goal.returns-clause-changes
returns-clause-changes c = (kept c).changes
