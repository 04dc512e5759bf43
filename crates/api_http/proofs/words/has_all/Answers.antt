use Rattle.std.proofs.Common.{List, ℕ, [], ◌∷◌, codes, ap, ◌∙◌}
use Rattle.api_http.specs.Spelled.{by_all, without_all}
use Rattle.api_http.proofs.Faults.{bad_pair, several, few_one}
use Rattle.api_http.proofs.words.has_all.Goals as goal

pub returns-in-Ok-None-clause-ok : goal.returns-in-Ok-None-clause-ok
returns-in-Ok-None-clause-ok c = let told = rw c.in-Ok-None.field-0-is at c.in-Ok-None.ensures.ok in without_all told

pub returns-in-Ok-clause-ok : goal.returns-in-Ok-clause-ok
returns-in-Ok-clause-ok c =
    let told = rw c.in-Ok-Some.field-0-is at c.in-Ok-Some.ensures.ok in
    let is = c.in-Ok.ensures.ok in
    by_all (told ∙ ap (λ (n : List ℕ). (n, c.in-Ok-Some.value.now) ∷ []) is.0 ∙ ap (λ (v : List ℕ). (codes "all", v) ∷ []) is.1)

pub returns-in-Err-given_all-clause-bad : goal.returns-in-Err-given_all-clause-bad
returns-in-Err-given_all-clause-bad c =
    let told = rw c.in-Ok-Some.field-0-is at c.in-Ok-Some.ensures.ok in
    bad_pair _ _ _ _ _ told c.in-Err-given_all.ensures.bad

pub returns-in-Err-clause-bad : goal.returns-in-Err-clause-bad
returns-in-Err-clause-bad c = several _ _ _ (few_one (codes "all")) c.in-Err.ensures.several
