use Rattle.std.proofs.Common.{◌≡◌, ◌++◌}
use Rattle.metadata_links.specs.Services.{services_from, services_in}
use Rattle.metadata_links.proofs.services.services_in.Given as goal

abbrev pub invariant-loop-name : goal.invariant-loop-name
invariant-loop-name l = l.services.items ++ services_from l.name-iterator ≡ services_in l.content
