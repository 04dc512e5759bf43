use Rattle.version_links.proofs.Chains.{resolves_one}
use Rattle.version_links.proofs.Always.{always_resolves}
use Rattle.version_links.proofs.law.laws.Goals as goal

pub returns-clause-one : goal.returns-clause-one
returns-clause-one c tree one other a b = resolves_one tree one other a b

pub returns-clause-always : goal.returns-clause-always
returns-clause-always c tree = always_resolves tree
