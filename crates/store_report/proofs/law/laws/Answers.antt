use Rattle.store_report.proofs.Reported.{untold_is_typed, typed_is_untold, told_mends}
use Rattle.store_report.proofs.law.laws.Goals as goal

pub returns-clause-untold : goal.returns-clause-untold
returns-clause-untold c = untold_is_typed

pub returns-clause-typed : goal.returns-clause-typed
returns-clause-typed c = typed_is_untold

pub returns-clause-mends : goal.returns-clause-mends
returns-clause-mends c = told_mends
