use Rattle.std.proofs.Common.{codes}
use Rattle.std.proofs.lemmas.Result.{IfErr-weaker}
use Rattle.api_http.proofs.Faults.{nothing_there, bad_pair, several, few_one}
use Rattle.api_http.proofs.words.name_of.Goals as goal

pub returns-in-Ok-None-clause-bad : goal.returns-in-Ok-None-clause-bad
returns-in-Ok-None-clause-bad c _ = let told = rw c.in-Ok-None.field-0-is at c.in-Ok-None.ensures.ok in nothing_there _ _ _ told

pub returns-in-Ok-Some-clause-bad : goal.returns-in-Ok-Some-clause-bad
returns-in-Ok-Some-clause-bad c =
    let told = rw c.in-Ok-Some.field-0-is at c.in-Ok-Some.ensures.ok in
    IfErr-weaker c.given_name.result _ _ (λ e wrong bad. bad_pair _ _ _ _ _ told (wrong bad)) c.given_name.ensures.bad

pub returns-in-Err-clause-bad : goal.returns-in-Err-clause-bad
returns-in-Err-clause-bad c _ = several _ _ _ (few_one (codes "name")) c.in-Err.ensures.several
