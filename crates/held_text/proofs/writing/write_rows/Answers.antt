use Rattle.std.proofs.Common.{ℕ, List, [], ◌∷◌, map, refl, ap, ◌∙◌}
use Rattle.std.proofs.lemmas.List.{drop_all}
use Rattle.json_trees.proofs.Parting.{next_item}
use Rattle.json_trees.specs.declared.scalar.Scalar.{Scalar}
use Rattle.held_text.specs.HeldText.{Row, row_data}
use Rattle.held_text.specs.HeldRules.{IsRow}
use Rattle.held_text.proofs.HeldWalks.{writing_none, writing_next, writing_all, valid_all, flat_map-single}
use Rattle.held_text.proofs.JsonLists.{one_written}
use Rattle.held_text.proofs.writing.write_rows.Goals as goal

pub loop-name-init : goal.loop-name-init
loop-name-init c = writing_none _ _ _ _ _ _ refl

pub loop-name-preserved : goal.loop-name-preserved
loop-name-preserved c =
    let key = c.args.key.now in
    writing_next (λ e. (key, e.0, e.1) ∷ []) row_data IsRow _ _ _ c.loop-name-item.result _ _ _ c.loop-name.invariant
    (next_item c.as_slice-name-items.result.now c.loop-name.name-index c.loop-name-item.result c.loop-name-test.true c.loop-name-item.is)
    (one_written row_data _ _ _ c.in_ok-write_row.ensures.wrote) (c.in_ok-write_row.ensures.valid, tt)

pub returns-clause-wrote : goal.returns-clause-wrote
returns-clause-wrote c =
    let row : List ℕ × Scalar → Row = λ e. (c.args.key.now, e.0, e.1) in
    writing_all (λ e. row e ∷ []) row_data IsRow _ _ _ _ _ c.loop-name.invariant (drop_all _ _ c.loop-name-test.false)
    (flat_map-single row _ ∙ ap (map row) c.as_slice-name-items.ensures)

pub returns-clause-valid : goal.returns-clause-valid
returns-clause-valid c =
    let row : List ℕ × Scalar → Row = λ e. (c.args.key.now, e.0, e.1) in
    valid_all (λ e. row e ∷ []) row_data IsRow _ _ _ _ _ c.loop-name.invariant (drop_all _ _ c.loop-name-test.false)
    (flat_map-single row _ ∙ ap (map row) c.as_slice-name-items.ensures)
