use Rattle.std.proofs.Common.{◌≡◌, ◌++◌, length, map}
use Rattle.std.specs.Vec.Iter.{into_iter_items, into_iter_len}
use Rattle.pending_tx.specs.Entries.{live_entry}
use Rattle.pending_tx.proofs.live_changes.set_live.Given as goal

abbrev pub invariant-loop-key : goal.invariant-loop-key
invariant-loop-key l = record {
  can_next : (goal.iterator-loop-key).can_next l.key-iterator;
  is_finite : (goal.iterator-loop-key).is_finite l.key-iterator;
  set : l.entries.items ++ map (λ e. live_entry e.0 e.1) (into_iter_items l.key-iterator) ≡ l.fn.entries.items
      ++ map (λ e. live_entry e.0 e.1) l.fn.changes.items;
  left : length (into_iter_items l.key-iterator) ≡ into_iter_len l.key-iterator;
}
