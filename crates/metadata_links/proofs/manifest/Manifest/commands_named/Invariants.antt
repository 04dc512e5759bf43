use Rattle.std.proofs.Common.{◌≡◌, ◌++◌, drop, map}
use Rattle.std.specs.List.{flat_map}
use Rattle.metadata_links.specs.Commands.{seen}
use Rattle.metadata_links.specs.Links.{commands_in, service_named}
use Rattle.metadata_links.proofs.manifest.Manifest.commands_named.Given as goal

abbrev pub invariant-loop-name : goal.invariant-loop-name
invariant-loop-name l = map seen l.commands.items ++ flat_map (λ name. commands_in name (service_named l.self name)) (drop l.name-index l.names) ≡ flat_map
    (λ name. commands_in name (service_named l.self name)) l.names
