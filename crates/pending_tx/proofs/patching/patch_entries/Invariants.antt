use Rattle.std.proofs.Common.{◌≡◌, ◌++◌, filter, map}
use Rattle.settings_tree.specs.declared.entry.Entry.TheVariants.{PendSet}
use Rattle.pending_tx.specs.Entries.{is_new, patch_entries}
use Rattle.pending_tx.proofs.patching.patch_entries.Given as goal

abbrev pub invariant-loop-key : goal.invariant-loop-key
invariant-loop-key l = l.entries.items ++ map (λ e. PendSet l.tx e.0 e.1) (filter (λ e. is_new l.held l.tx e.0 e.1) l.key-iterator)
    ≡ patch_entries l.held l.tx l.pairs
