use Rattle.fs_datastore.specs.Values.{owed_scalar}
use Rattle.held_text.specs.HeldText.{owed_data}
use Rattle.fs_datastore.proofs.KeyLists.{owed_as_scalar, owed_in_range, compact_written}
use Rattle.fs_datastore.proofs.scalar_texts.owed_text.Goals as goal

pub returns-clause-text : goal.returns-clause-text
returns-clause-text c = let keys = c.args.keys.now in
    (compact_written (owed_scalar keys) (owed_data keys) c.text_of.result _ _ (owed_in_range keys) (owed_as_scalar keys) c.text_of.ensures.utf8 c.text_of.ensures.text
    c.text_of.ensures.reads_back c.new-writer.ensures.tokens c.in_ok-write_owed.ensures.wrote).compact

pub returns-clause-spelled : goal.returns-clause-spelled
returns-clause-spelled c = let keys = c.args.keys.now in (
  c.in_ok-write_owed.ensures.valid,
  compact_written (owed_scalar keys) (owed_data keys) c.text_of.result _ _ (owed_in_range keys) (owed_as_scalar keys) c.text_of.ensures.utf8 c.text_of.ensures.text
      c.text_of.ensures.reads_back c.new-writer.ensures.tokens c.in_ok-write_owed.ensures.wrote,
)
