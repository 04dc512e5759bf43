use Rattle.std.proofs.Common.{◌≡◌, drop}
use Rattle.std.specs.FinMap.{keys}
use Rattle.metadata_links.specs.Faults.{unknown_files}
use Rattle.metadata_links.proofs.service_links.check_files.Given as goal

abbrev pub invariant-loop-file : goal.invariant-loop-file
invariant-loop-file l = unknown_files (keys l.files) l.service (drop l.file-index l.listed) ≡ unknown_files (keys l.files) l.service l.listed
