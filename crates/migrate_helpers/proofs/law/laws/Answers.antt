use Rattle.migrate_helpers.proofs.RoundTrips.{rename_back, replace_back}
use Rattle.migrate_helpers.proofs.law.laws.Goals as goal

pub returns-clause-renamed : goal.returns-clause-renamed
returns-clause-renamed c pairs h g lawful new is = rename_back pairs.items h g lawful.content lawful.waiting lawful.rises new is

pub returns-clause-replaced : goal.returns-clause-replaced
returns-clause-replaced c k old new h g lawful none is = replace_back k old new h g lawful.content lawful.waiting lawful.rises none is
