use Rattle.std.proofs.Common.{◌∙◌}
use Rattle.serde_json.specs.Data.{string}
use Rattle.json_trees.specs.Tree.{pending_data}
use Rattle.held_text.specs.HeldText.{map_data}
use Rattle.held_text.proofs.Fillings.{pair_is}
use Rattle.held_text.proofs.Readings.{err_reads}
use Rattle.held_text.proofs.reading.transaction_of.Goals as goal

pub returns-in_err-name-clause-reads : goal.returns-in_err-name-clause-reads
returns-in_err-name-clause-reads c =
    err_reads _ _ _ _ c.from_residual.result c.from_residual.ensures.1
    (λ x valid is e gives. absurd (c.in_err-name.ensures.err (string x.0) (map_data pending_data x.1) is))

pub returns-in_err-name-2-clause-reads : goal.returns-in_err-name-2-clause-reads
returns-in_err-name-2-clause-reads c =
    err_reads _ _ _ _ c.from_residual-in_err-name-2.result c.from_residual-in_err-name-2.ensures.1
    (λ x valid is e gives. gives ∙ c.in_err-name-2.ensures.finds x.0 valid.valid.name (c.in_ok-name.ensures.ok (string x.0) (map_data pending_data x.1) is).0)

pub returns-in_err-keys-clause-reads : goal.returns-in_err-keys-clause-reads
returns-in_err-keys-clause-reads c =
    err_reads _ _ _ _ c.from_residual-in_err-keys.result c.from_residual-in_err-keys.ensures.1
    (λ x valid is e gives.
    gives ∙ c.in_err-keys.ensures.reads.finds x.1 (record { free = valid.free; pairs = valid.valid.pairs })
    (c.in_ok-name.ensures.ok (string x.0) (map_data pending_data x.1) is).1)

pub returns-clause-reads : goal.returns-clause-reads
returns-clause-reads c = record {
  finds = λ x valid is.
      let both = c.in_ok-name.ensures.ok (string x.0) (map_data pending_data x.1) is in
      pair_is _ _ x (c.in_ok-name-2.ensures.finds x.0 valid.valid.name both.0)
      (c.in_ok-keys.ensures.reads.finds x.1 (record { free = valid.free; pairs = valid.valid.pairs }) both.1);
}
