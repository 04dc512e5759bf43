use Rattle.std.proofs.Common.{◌≡◌, drop, Ok}
use Rattle.std.specs.Option.{option_copied}
use Rattle.metadata_links.specs.Faults.{list_faults, is_among}
use Rattle.metadata_links.proofs.affected_lists.check_known.Given as goal

abbrev pub invariant-loop-name : goal.invariant-loop-name
invariant-loop-name l = list_faults (is_among (option_copied l.services)) (l.key, Ok (drop l.name-index l.names)) ≡ list_faults
    (is_among (option_copied l.services)) (l.key, Ok l.names)
