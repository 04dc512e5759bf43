use Rattle.std.proofs.Common.{[], ◌∷◌, IsTrue, refl, ◌∙◌, arith}
use Rattle.std.proofs.lemmas.List.{drop_all}
use Rattle.std.proofs.lemmas.Result.{on_ok_weaker}
use Rattle.key_names.specs.Key.{is_key}
use Rattle.held_text.specs.HeldText.{key_data}
use Rattle.held_text.proofs.HeldWalks.{writing_none, writing_next, writing_all, valid_all, flat_map-same}
use Rattle.held_text.proofs.JsonLists.{list_written, one_written}
use Rattle.held_text.proofs.writing.write_keys.Goals as goal
use Rattle.json_trees.proofs.Parting.{next_item}
use Rattle.held_text.proofs.KeysLeft.{all_valid}

pub loop-key-init : goal.loop-key-init
loop-key-init c = writing_none _ _ _ _ _ _ refl

pub loop-key-preserved : goal.loop-key-preserved
loop-key-preserved c =
    writing_next (λ e. e ∷ []) key_data (λ key. IsTrue (is_key key)) _ _ _ c.key-item.result _ _ _ c.loop-key.invariant
    (next_item c.as_slice-key-items.result.now c.loop-key.key-index c.key-item.result (omega arith) c.key-item.is)
    (one_written key_data _ _ _ c.in_ok-write_key.ensures.wrote)
    (c.in_ok-write_key.ensures.valid, tt)

pub returns-clause-wrote : goal.returns-clause-wrote
returns-clause-wrote c =
    list_written key_data c.end_array.result c.args.keys.now _ _ _ _ c.in_ok-begin_array.ensures.ok c.in_ok-begin_array.ensures.room.0
    (writing_all (λ e. e ∷ []) key_data (λ key. IsTrue (is_key key)) _ _ _ _ _ c.loop-key.invariant (drop_all _ _ c.loop-key-test.false)
    (flat_map-same _ ∙ c.as_slice-key-items.ensures.items))
    c.end_array.ensures

pub returns-clause-valid : goal.returns-clause-valid
returns-clause-valid c =
    on_ok_weaker c.end_array.result
    (λ _. record {
      rising = c.as_slice-key-items.ensures.rising;
      valid =
          all_valid _ (valid_all (λ e. e ∷ []) key_data (λ key. IsTrue (is_key key)) _ _ _ _ _ c.loop-key.invariant (drop_all _ _ c.loop-key-test.false)
          (flat_map-same _ ∙ c.as_slice-key-items.ensures.items));
    })
    c.end_array.ensures.ok
