use Rattle.std.proofs.Common.{◌≡◌, drop}
use Rattle.std.specs.FinMap.{keys, entries}
use Rattle.std.specs.List.{flat_map}
use Rattle.metadata_links.specs.Faults.{service_faults}
use Rattle.metadata_links.proofs.service_links.check_services.Given as goal

abbrev pub invariant-loop-name : goal.invariant-loop-name
invariant-loop-name l = flat_map (service_faults (keys l.files)) (drop l.name-index l.name-items) ≡ flat_map (service_faults (keys l.files))
    (entries l.services)
