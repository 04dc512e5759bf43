use Rattle.std.proofs.Common.{refl, ◌∙◌}
use Rattle.key_names.specs.Order.{key_total, key_cmp-IsAntisymmetric}
use Rattle.fs_datastore.proofs.SavedWalks.{walk_none, walk_more, walk_all, next_there, metadata_of, bare_names}
use Rattle.fs_datastore.proofs.saving.save_metadata.Goals as goal

pub loop-key-init : goal.loop-key-init
loop-key-init g c = record {
  saved = walk_none key_total key_cmp-IsAntisymmetric (metadata_of c.args.metadata.now) _ _
      (c.into_iter-key-iterator.ensures.into_iter_gives ∙ c.iter-key-items.ensures);
  faults = refl;
}

pub save_names-requires-clause-named : goal.save_names-requires-clause-named
save_names-requires-clause-named g c =
    let key = c.in-Some.key.now in
    let names = c.in-Some.names.now in
    bare_names c.args.metadata.now key names c.requires.named (next_there (key, names) c.loop-key.invariant.saved c.in-Some.ensures.steps)

pub loop-key-preserved : goal.loop-key-preserved
loop-key-preserved g c = record {
  saved = walk_more (c.in-Some.key.now, c.in-Some.names.now) _ c.loop-key.invariant.saved c.in-Some.ensures.steps c.in_ok-save_names.ensures.saves;
  faults = c.in_ok-save_names.ensures.cause.kept ∙ c.loop-key.invariant.faults;
}

pub returns-clause-saves : goal.returns-clause-saves
returns-clause-saves g c = walk_all c.loop-key.invariant.saved c.in-None.ensures.steps.0
