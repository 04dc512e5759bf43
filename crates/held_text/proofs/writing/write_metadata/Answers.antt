use Rattle.std.proofs.Common.{refl, ◌∙◌}
use Rattle.std.proofs.lemmas.Result.{on_ok_weaker}
use Rattle.held_text.specs.HeldText.{rows, rows_at, row_data}
use Rattle.held_text.specs.HeldRules.{IsRow}
use Rattle.held_text.proofs.HeldWalks.{writing_none, writing_next, writing_all, valid_all}
use Rattle.held_text.proofs.JsonLists.{list_written}
use Rattle.held_text.proofs.writing.write_metadata.Goals as goal

pub loop-key-init : goal.loop-key-init
loop-key-init c = writing_none _ _ _ _ _ _ (c.into_iter-key-iterator.ensures.into_iter_gives ∙ c.iter-key-items.ensures)

pub loop-key-preserved : goal.loop-key-preserved
loop-key-preserved c =
    writing_next rows_at row_data IsRow _ _ _ (c.in-Some.key.now, c.in-Some.names.now) _ _ _ c.loop-key.invariant c.in-Some.ensures.steps
    c.in_ok-write_rows.ensures.wrote c.in_ok-write_rows.ensures.valid

pub returns-clause-wrote : goal.returns-clause-wrote
returns-clause-wrote c =
    list_written row_data c.end_array.result (rows c.args.metadata.now) _ _ _ _ c.in_ok-begin_array.ensures.ok c.in_ok-begin_array.ensures.room.0
    (writing_all rows_at row_data IsRow _ _ _ _ _ c.loop-key.invariant c.in-None.ensures.steps.0 refl) c.end_array.ensures

pub returns-clause-valid : goal.returns-clause-valid
returns-clause-valid c =
    on_ok_weaker c.end_array.result (λ _. valid_all rows_at row_data IsRow _ _ _ _ _ c.loop-key.invariant c.in-None.ensures.steps.0 refl)
    c.end_array.ensures.ok
