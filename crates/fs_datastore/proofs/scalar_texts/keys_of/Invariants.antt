use Rattle.fs_datastore.proofs.KeyTexts.{SoFar}
use Rattle.fs_datastore.proofs.scalar_texts.keys_of.Given as goal

abbrev pub invariant-loop-item : goal.invariant-loop-item
invariant-loop-item l = SoFar l.items l.item-index l.keys.items
