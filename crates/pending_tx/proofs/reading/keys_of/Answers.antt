use Rattle.std.proofs.Common.{sym, ◌∙◌, ap, map}
use Rattle.std.specs.FinMap.{keys}
use Rattle.std.proofs.lemmas.Result.{IfOk-weaker}
use Rattle.pending_tx.proofs.Present.{has_values, has_none}
use Rattle.pending_tx.proofs.reading.keys_of.Goals as goal

pub returns-in-Some : goal.returns-in-Some
returns-in-Some c = record {
  keys = IfOk-weaker c.copied_keys.result _ _ (λ copies are. are
      ∙ ap keys (has_values c.args.held.now.pending c.args.tx.now c.in-Some.values.now c.in-Some.ensures.keys)) c.copied_keys.ensures;
  valid = IfOk-weaker c.copied_keys.result _ _ (λ copies are. c.in-Some.ensures.valid) c.copied_keys.ensures;
}

pub returns-in-None-clause-keys : goal.returns-in-None-clause-keys
returns-in-None-clause-keys c = c.new.ensures ∙ sym (ap (map (λ e. e.0)) (has_none c.args.held.now.pending c.args.tx.now c.in-None.ensures.keys))
