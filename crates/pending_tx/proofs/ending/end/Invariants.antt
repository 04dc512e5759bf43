use Rattle.std.proofs.Common.{◌≡◌, ◌++◌, map, take}
use Rattle.settings_tree.specs.declared.entry.Entry.TheVariants.{PendGone}
use Rattle.pending_tx.proofs.ending.end.Given as goal

abbrev pub invariant-loop-key : goal.invariant-loop-key
invariant-loop-key l = l.entries.items ≡ l.fn.entries.items ++ map (λ k. PendGone l.tx k) (take l.key-index l.key-items)
