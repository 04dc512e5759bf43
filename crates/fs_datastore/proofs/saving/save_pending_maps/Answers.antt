use Rattle.std.proofs.Common.{refl, ◌∙◌}
use Rattle.key_names.specs.Order.{bytes_total, bytes_cmp-IsAntisymmetric}
use Rattle.fs_datastore.proofs.SavedWalks.{walk_none, walk_more, walk_all, pending_of}
use Rattle.fs_datastore.proofs.saving.save_pending_maps.Goals as goal

pub loop-tx-init : goal.loop-tx-init
loop-tx-init g c = record {
  saved = walk_none bytes_total bytes_cmp-IsAntisymmetric (pending_of c.args.transactions.now) _ _
      (c.into_iter-tx-iterator.ensures.into_iter_gives ∙ c.iter-tx-items.ensures);
  faults = refl;
}

pub loop-tx-preserved : goal.loop-tx-preserved
loop-tx-preserved g c = record {
  saved = walk_more (c.in-Some.tx.now, c.in-Some.keys.now) _ c.loop-tx.invariant.saved c.in-Some.ensures.steps c.in_ok-save_keys.ensures.saves;
  faults = c.in_ok-save_keys.ensures.cause.kept ∙ c.loop-tx.invariant.faults;
}

pub returns-clause-saves : goal.returns-clause-saves
returns-clause-saves g c = walk_all c.loop-tx.invariant.saved c.in-None.ensures.steps.0
