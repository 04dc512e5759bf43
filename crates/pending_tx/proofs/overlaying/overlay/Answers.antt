use Rattle.std.proofs.Common.{◌≡◌, ◌∙◌, ap, filter, map}
use Rattle.std.specs.FinMap.{get}
use Rattle.settings_tree.proofs.Rising.{keys_rise, some_rise}
use Rattle.pending_tx.specs.Transactions.{changes_in, differs, last_of}
use Rattle.pending_tx.proofs.Commits.{adds_at}
use Rattle.pending_tx.proofs.overlaying.overlay.Goals as goal

pub keys_in-requires : goal.keys_in-requires
keys_in-requires c = keys_rise (last_of c.args.pairs.now) _ (ap (map (λ e. e.0)) (c.deref.ensures.value ∙ c.in_ok-last.ensures))

pub keys_in-requires-2 : goal.keys_in-requires-2
keys_in-requires-2 c = some_rise (last_of c.args.pairs.now) (λ e. differs e.1 (get c.args.held.now.live.values e.0)) _
    (ap (map (λ e. e.0)) (c.deref-2.ensures.value ∙ c.changes_in-changes.ensures
    ∙ ap (filter (λ e. differs e.1 (get c.args.held.now.live.values e.0))) c.in_ok-last.ensures))

pub returns-clause-keys : goal.returns-clause-keys
returns-clause-keys c = c.in_ok-keys.ensures ∙ ap (map (λ e. e.0)) (c.deref.ensures.value ∙ c.in_ok-last.ensures)

changes : (c : goal.In_ok-push_commit) → c.changes_in-changes.result.items ≡ changes_in c.args.held.now (last_of c.args.pairs.now)
changes c = c.changes_in-changes.ensures ∙ ap (filter (λ e. differs e.1 (get c.args.held.now.live.values e.0))) c.in_ok-last.ensures

pub returns-clause-changed : goal.returns-clause-changed
returns-clause-changed c = c.in_ok-changed.ensures ∙ ap (map (λ e. e.0)) (c.deref-2.ensures.value ∙ changes c)

pub returns-clause-added : goal.returns-clause-added
returns-clause-added c = adds_at c.args.held.now (last_of c.args.pairs.now) c.args.ended.items c.in_ok-keys.keys c.in_ok-changed.changed
    c.changes_in-changes.result.items c.new-entries.result.items c.push_commit.new.entries.items c.new-entries.ensures.items
    (returns-clause-keys c) (returns-clause-changed c) (changes c) c.in_ok-push_commit.ensures.added

pub returns-clause-valid : goal.returns-clause-valid
returns-clause-valid c = c.in_ok-push_commit.ensures.valid
