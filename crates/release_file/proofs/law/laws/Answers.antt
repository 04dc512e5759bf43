use Rattle.release_file.proofs.Plans.{plans_once, plans_or_misses, misses_once}
use Rattle.release_file.proofs.law.laws.Goals as goal

pub returns-clause-once : goal.returns-clause-once
returns-clause-once c = plans_once

pub returns-clause-or_misses : goal.returns-clause-or_misses
returns-clause-or_misses c = plans_or_misses

pub returns-clause-misses_once : goal.returns-clause-misses_once
returns-clause-misses_once c = misses_once
