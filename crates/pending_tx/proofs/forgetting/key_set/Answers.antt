use Rattle.std.proofs.Common.{◌≡◌, ◌∙◌, ap, map}
use Rattle.std.specs.FinMap.{entries}
use Rattle.std.proofs.lemmas.Result.{IfOk-weaker}
use Rattle.settings_tree.proofs.Rising.{keys_rise}
use Rattle.pending_tx.specs.Transactions.{last_of, removals, rising}
use Rattle.pending_tx.proofs.forgetting.key_set.Goals as goal

names : (c : goal.After-drop-pairs-2) → map (λ e. e.0) c.deref-2.result.now ≡ rising c.args.keys.now
names c = ap (map (λ e. e.0)) (c.deref-2.ensures.value ∙ c.in_ok-last.ensures
    ∙ ap (λ pairs. entries (last_of pairs)) (c.deref.ensures.value ∙ c.in_ok-pairs.ensures))

pub keys_in-requires : goal.keys_in-requires
keys_in-requires c = keys_rise (last_of (removals c.args.keys.now)) _ (ap (map (λ e. e.0)) (c.deref-2.ensures.value ∙ c.in_ok-last.ensures
    ∙ ap (λ pairs. entries (last_of pairs)) (c.deref.ensures.value ∙ c.in_ok-pairs.ensures)))

pub returns : goal.returns
returns c = IfOk-weaker c.keys_in.result _ (λ set. set ≡ rising c.args.keys.now) (λ set is. is ∙ names c) c.keys_in.ensures
