use Rattle.std.proofs.Common.{◌≡◌, ◌++◌, map, Ok}
use Rattle.metadata_links.specs.Files.{files_from, files_in}
use Rattle.metadata_links.proofs.file_rows.files_in.Given as goal

abbrev pub invariant-loop-name : goal.invariant-loop-name
invariant-loop-name l = map (λ e. (e.0, Ok e.1)) l.files.items ++ files_from l.name-iterator ≡ files_in l.content
