use Rattle.std.proofs.Common.{[], ◌∷◌, ap, ◌∙◌}
use Rattle.std.proofs.lemmas.Result.{on_ok_weaker}
use Rattle.std.specs.FinMap.{entries}
use Rattle.held_text.specs.HeldText.{transaction_data}
use Rattle.held_text.specs.HeldRules.{IsTransaction}
use Rattle.held_text.proofs.HeldWalks.{writing_none, writing_next, writing_all, valid_all, flat_map-same}
use Rattle.held_text.proofs.JsonLists.{list_written, one_written}
use Rattle.held_text.proofs.writing.write_pending.Goals as goal

pub loop-tx-init : goal.loop-tx-init
loop-tx-init c = writing_none _ _ _ _ _ _
    (c.into_iter-tx-iterator.ensures.into_iter_gives ∙ c.iter-tx-items.ensures ∙ ap entries c.transactions.ensures.transactions)

pub loop-tx-preserved : goal.loop-tx-preserved
loop-tx-preserved c =
    writing_next (λ e. e ∷ []) transaction_data IsTransaction _ _ _ (c.in-Some.tx.now, c.in-Some.keys.now) _ _ _ c.loop-tx.invariant c.in-Some.ensures.steps
    (one_written transaction_data _ _ _ c.in_ok-write_transaction.ensures.wrote) (c.in_ok-write_transaction.ensures.valid, tt)

pub returns-clause-wrote : goal.returns-clause-wrote
returns-clause-wrote c =
    let m = c.args.pending.now in
    list_written transaction_data c.end_array.result (entries m) _ _ _ _ c.in_ok-begin_array.ensures.ok c.in_ok-begin_array.ensures.room.0
    (writing_all (λ e. e ∷ []) transaction_data IsTransaction _ _ _ _ _ c.loop-tx.invariant c.in-None.ensures.steps.0 (flat_map-same (entries m)))
    c.end_array.ensures

pub returns-clause-valid : goal.returns-clause-valid
returns-clause-valid c =
    let m = c.args.pending.now in
    on_ok_weaker c.end_array.result
    (λ _. record {
      rules = c.transactions.ensures.valid;
      transactions =
          valid_all (λ e. e ∷ []) transaction_data IsTransaction _ _ _ _ _ c.loop-tx.invariant c.in-None.ensures.steps.0 (flat_map-same (entries m));
    }) c.end_array.ensures.ok
