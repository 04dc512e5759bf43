use Rattle.std.proofs.Common.{map}
use Rattle.metadata_links.specs.Faults.{pairs_of, is_same, is_nested}
use Rattle.metadata_links.specs.declared.file_row.FileRow.{FileRow}
use Rattle.metadata_links.specs.declared.manifest_error.ManifestError.TheVariants.{SamePath, NestedPath}
use Rattle.metadata_links.specs.declared.paths.Clash.TheVariants.{Same, Nested}
use Rattle.metadata_links.proofs.Clashes.{found_none}
use Rattle.metadata_links.proofs.paths.check_paths.Goals as goal

pub returns-then-branch-clause-same : goal.returns-then-branch-clause-same
returns-then-branch-clause-same c = found_none (λ (p : FileRow × FileRow). SamePath p.0.name p.1.name) (λ (p : FileRow × FileRow). is_same p.0 p.1)
    (pairs_of (map (λ e. e.1) c.args.files.now)) (c.in_ok-are_apart.ensures c.if-branch.true Same)

pub returns-then-branch-clause-nested : goal.returns-then-branch-clause-nested
returns-then-branch-clause-nested c = found_none (λ (p : FileRow × FileRow). NestedPath p.0.name p.1.name) (λ (p : FileRow × FileRow). is_nested p.0 p.1)
    (pairs_of (map (λ e. e.1) c.args.files.now)) (c.in_ok-are_apart.ensures c.if-branch.true Nested)
