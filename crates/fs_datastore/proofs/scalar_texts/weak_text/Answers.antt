use Rattle.fs_datastore.specs.Values.{list_of}
use Rattle.held_text.specs.HeldText.{keys_data}
use Rattle.fs_datastore.proofs.KeyLists.{keys_as_scalar, keys_in_range, compact_written}
use Rattle.fs_datastore.proofs.scalar_texts.weak_text.Goals as goal

pub returns-clause-text : goal.returns-clause-text
returns-clause-text c = let keys = c.args.keys.now in
    (compact_written (list_of keys) (keys_data keys) c.text_of.result _ _ (keys_in_range keys) (keys_as_scalar keys) c.text_of.ensures.utf8 c.text_of.ensures.text
    c.text_of.ensures.reads_back c.new-writer.ensures.tokens c.in_ok-write_keys.ensures.wrote).compact

pub returns-clause-spelled : goal.returns-clause-spelled
returns-clause-spelled c = let keys = c.args.keys.now in (
  c.in_ok-write_keys.ensures.valid,
  compact_written (list_of keys) (keys_data keys) c.text_of.result _ _ (keys_in_range keys) (keys_as_scalar keys) c.text_of.ensures.utf8 c.text_of.ensures.text
      c.text_of.ensures.reads_back c.new-writer.ensures.tokens c.in_ok-write_keys.ensures.wrote,
)
