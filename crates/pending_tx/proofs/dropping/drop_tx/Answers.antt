use Rattle.std.proofs.Common.{◌≡◌, ◌++◌, List, ◌∙◌, ap, map}
use Rattle.settings_tree.specs.declared.entry.Entry.{Entry}
use Rattle.settings_tree.specs.declared.entry.Entry.TheVariants.{PendGone}
use Rattle.pending_tx.specs.Transactions.{keys_of}
use Rattle.pending_tx.proofs.Drops.{drop_once, drop_bare, drop_laid, drop_rule, drop_weak, drop_told, drop_changes}
use Rattle.pending_tx.proofs.dropping.drop_tx.Goals as goal

made : (c : goal.In_ok-end) → c.end.new.entries.items ≡ map (λ k. PendGone c.args.tx.now k) (keys_of c.args.held.now c.args.tx.now)
made c = c.in_ok-end.ensures ∙ ap (λ (l : List Entry). l ++ map (λ k. PendGone c.args.tx.now k) c.in_ok-keys.keys) c.new-entries.ensures.items
    ∙ ap (map (λ k. PendGone c.args.tx.now k)) c.in_ok-keys.ensures.keys

told : (c : goal.After-of-change) → c.of-change.result ≡ map (λ k. PendGone c.args.tx.now k) (keys_of c.args.held.now c.args.tx.now)
told c = c.of-change.ensures ∙ c.in_ok-end.ensures ∙ ap (λ (l : List Entry). l ++ map (λ k. PendGone c.args.tx.now k) c.in_ok-keys.keys)
    c.new-entries.ensures.items ∙ ap (map (λ k. PendGone c.args.tx.now k)) c.in_ok-keys.ensures.keys

pub returns-clause-laid : goal.returns-clause-laid
returns-clause-laid c = drop_laid c.args.held.now c.args.tx.now c.of-change.result (told c) c.in_ok-keys.ensures.valid

pub returns-clause-rule : goal.returns-clause-rule
returns-clause-rule c = drop_rule c.args.held.now c.args.tx.now c.of-change.result (told c) c.in_ok-keys.ensures.valid

pub returns-clause-weak : goal.returns-clause-weak
returns-clause-weak c = drop_weak c.args.held.now c.args.tx.now c.of-change.result (told c)

pub returns-clause-told : goal.returns-clause-told
returns-clause-told c = drop_told c.args.held.now c.args.tx.now c.of-change.result (told c)

pub returns-clause-changes : goal.returns-clause-changes
returns-clause-changes c = drop_changes c.args.held.now c.args.tx.now c.of-change.result (told c)

pub of-change-requires-clause-once : goal.of-change-requires-clause-once
of-change-requires-clause-once c = drop_once c.args.held.now c.args.tx.now c.end.new.entries.items (made c)

pub of-change-requires-clause-names : goal.of-change-requires-clause-names
of-change-requires-clause-names c = drop_bare c.args.held.now c.args.tx.now c.end.new.entries.items (made c)
