use Rattle.std.proofs.Common.{◌≡◌, sym, ◌∙◌, ap}
use Rattle.std.specs.FinMap.{entries}
use Rattle.std.proofs.lemmas.Result.{IfOk-weaker}
use Rattle.settings_tree.proofs.ApartKeys.{all_apart}
use Rattle.pending_tx.specs.Transactions.{pending_of}
use Rattle.pending_tx.proofs.Present.{has_values, has_none}
use Rattle.pending_tx.proofs.reading.pending.Goals as goal

pub returns-in-Some : goal.returns-in-Some
returns-in-Some c =
    let same : c.in-Some.values.now ≡ pending_of c.args.held.now c.args.tx.now = has_values c.args.held.now.pending c.args.tx.now c.in-Some.values.now
    c.in-Some.ensures.keys in record {
      pairs = IfOk-weaker c.pairs_of.result _ _ (λ pairs are. are ∙ ap entries same) c.pairs_of.ensures;
      apart = IfOk-weaker c.pairs_of.result _ _ (λ pairs are. all_apart (pending_of c.args.held.now c.args.tx.now) (c.in-Some.ensures.valid.rule c.args.tx.now)
          pairs.items (are ∙ ap entries same)) c.pairs_of.ensures;
    }

pub returns-in-None : goal.returns-in-None
returns-in-None c =
    let none : c.new.result.items ≡ entries (pending_of c.args.held.now c.args.tx.now) = c.new.ensures.items
    ∙ sym (has_none c.args.held.now.pending c.args.tx.now c.in-None.ensures.keys) in record {
      pairs = none;
      apart = all_apart (pending_of c.args.held.now c.args.tx.now) (c.in-None.ensures.valid.rule c.args.tx.now) c.new.result.items none;
    }
