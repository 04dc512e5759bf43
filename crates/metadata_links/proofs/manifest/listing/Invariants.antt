use Rattle.std.proofs.Common.{◌≡◌, ◌++◌, drop}
use Rattle.metadata_links.specs.Commands.{listing}
use Rattle.metadata_links.proofs.manifest.listing.Given as goal

abbrev pub invariant-loop-name : goal.invariant-loop-name
invariant-loop-name l = l.names.items ++ listing l.file (drop l.name-index l.services) ≡ listing l.file l.services
