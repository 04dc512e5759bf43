use Rattle.std.proofs.Common.{List, ℕ, is_some, refl, sym, ap, ◌∙◌, subst}
use Rattle.std.specs.Prelude.{IsTrue}
use Rattle.std.proofs.lemmas.List.{drop_all}
use Rattle.key_names.specs.Order.{bytes_total, bytes_cmp-IsAntisymmetric}
use Rattle.json_trees.proofs.Parting.{next_item}
use Rattle.settings_maps.specs.TxName.{is_meta_name}
use Rattle.fs_datastore.proofs.SavedWalks.{walk_none, walk_more, walk_all, next_there, names_of}
use Rattle.fs_datastore.proofs.saving.save_names.Goals as goal

pub loop-name-init : goal.loop-name-init
loop-name-init g c = record {
  saved = walk_none bytes_total bytes_cmp-IsAntisymmetric (names_of c.args.key.now c.args.names.now) _ _ c.as_slice-name-items.ensures;
  faults = refl;
}

pub save_meta-requires-clause-bare : goal.save_meta-requires-clause-bare
save_meta-requires-clause-bare g c =
    let item = c.loop-name-item.result in
    let next = next_item c.as_slice-name-items.result.now c.loop-name.name-index item c.loop-name-test.true c.loop-name-item.is in
    subst (λ (n : List ℕ). IsTrue (is_meta_name n)) (sym (c.as_bytes.ensures.value ∙ c.as_str.ensures))
    (c.requires.named.bare item.0 (ap is_some (next_there item c.loop-name.invariant.saved next)))

pub loop-name-preserved : goal.loop-name-preserved
loop-name-preserved g c =
    let item = c.loop-name-item.result in
    let next = next_item c.as_slice-name-items.result.now c.loop-name.name-index item c.loop-name-test.true c.loop-name-item.is in
    record {
      saved = walk_more item _ c.loop-name.invariant.saved next (rw (c.as_bytes.ensures.value ∙ c.as_str.ensures) at c.in_ok-save_meta.ensures.saves);
      faults = c.in_ok-save_meta.ensures.cause.kept ∙ c.loop-name.invariant.faults;
    }

pub returns-clause-saves : goal.returns-clause-saves
returns-clause-saves g c = walk_all c.loop-name.invariant.saved (drop_all _ _ c.loop-name-test.false)
