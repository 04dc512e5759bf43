use Rattle.std.proofs.Common.{◌≡◌, drop}
use Rattle.std.specs.Str.{bytes_eq}
use Rattle.indexmap.specs.IndexSet.{insert_all}
use Rattle.metadata_links.specs.Firsts.{firsts}
use Rattle.metadata_links.specs.Links.{listed}
use Rattle.metadata_links.proofs.manifest.Manifest.listed.Given as goal

abbrev pub invariant-loop-name : goal.invariant-loop-name
invariant-loop-name l = insert_all bytes_eq l.files (listed l.self (drop l.name-index l.names)) ≡ firsts (listed l.self l.names)
