use Rattle.std.proofs.Common.{List, ℕ, [], ◌∷◌, codes, sym, subst, ap, ◌∙◌, IsTrue}
use Rattle.settings_maps.specs.TxName.{is_tx_name}
use Rattle.api_http.specs.Spelled.{by_tx, without_tx}
use Rattle.api_http.proofs.Faults.{bad_pair, several, few_one}
use Rattle.api_http.proofs.words.tx_if_any.Goals as goal

pub returns-in-Ok-None-clause-ok : goal.returns-in-Ok-None-clause-ok
returns-in-Ok-None-clause-ok c = let told = rw c.in-Ok-None.field-0-is at c.in-Ok-None.ensures.ok in without_tx told

pub returns-in-Ok-clause-ok : goal.returns-in-Ok-clause-ok
returns-in-Ok-clause-ok c =
    let told = rw c.in-Ok-Some.field-0-is at c.in-Ok-Some.ensures.ok in
    let is = c.in-Ok.ensures.ok in
    by_tx c.in-Ok.tx (told ∙ ap (λ (n : List ℕ). (n, c.in-Ok-Some.value.now) ∷ []) is.0 ∙ ap (λ (v : List ℕ). (codes "tx", v) ∷ []) (sym is.1))
    (subst (λ v. IsTrue (is_tx_name v)) (sym is.1) is.2)

pub returns-in-Err-given_tx-clause-bad : goal.returns-in-Err-given_tx-clause-bad
returns-in-Err-given_tx-clause-bad c bad =
    let told = rw c.in-Ok-Some.field-0-is at c.in-Ok-Some.ensures.ok in
    bad_pair _ _ _ _ _ told (c.in-Err-given_tx.ensures.bad bad)

pub returns-in-Err-clause-bad : goal.returns-in-Err-clause-bad
returns-in-Err-clause-bad c _ = several _ _ _ (few_one (codes "tx")) c.in-Err.ensures.several
