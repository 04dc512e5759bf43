use Rattle.std.proofs.Common.{refl, ◌∙◌}
use Rattle.key_names.specs.Order.{key_total, key_cmp-IsAntisymmetric}
use Rattle.fs_datastore.proofs.SavedWalks.{walk_none, walk_more, walk_all, live_of}
use Rattle.fs_datastore.proofs.saving.save_values.Goals as goal

pub loop-key-init : goal.loop-key-init
loop-key-init g c = record {
  saved = walk_none key_total key_cmp-IsAntisymmetric (live_of c.args.values.now) _ _
      (c.into_iter-key-iterator.ensures.into_iter_gives ∙ c.iter-key-items.ensures);
  faults = refl;
}

pub loop-key-preserved : goal.loop-key-preserved
loop-key-preserved g c = record {
  saved = walk_more (c.in-Some.key.now, c.in-Some.value.now) _ c.loop-key.invariant.saved c.in-Some.ensures.steps c.in_ok-save_value.ensures.saves;
  faults = c.in_ok-save_value.ensures.cause.kept ∙ c.loop-key.invariant.faults;
}

pub returns-clause-saves : goal.returns-clause-saves
returns-clause-saves g c = walk_all c.loop-key.invariant.saved c.in-None.ensures.steps.0
