use Rattle.std.proofs.Common.{map, Some, sym, ◌∙◌}
use Rattle.metadata_links.specs.Faults.{pairs_of, is_same}
use Rattle.metadata_links.specs.declared.file_row.FileRow.{FileRow}
use Rattle.metadata_links.specs.declared.manifest_error.ManifestError.TheVariants.{SamePath}
use Rattle.metadata_links.proofs.Clashes.{found_first, found_none}
use Rattle.metadata_links.proofs.paths.check_same.Goals as goal

pub returns-in_ok-copy-in-Some-2-clause-err : goal.returns-in_ok-copy-in-Some-2-clause-err
returns-in_ok-copy-in-Some-2-clause-err c = λ other.
    found_first (λ (p : FileRow × FileRow). SamePath p.0.name p.1.name) (λ (p : FileRow × FileRow). is_same p.0 p.1)
    (pairs_of (map (λ e. e.1) c.args.files.now)) (c.in-Some.first.now, c.in-Some.second.now) c.in-Some.ensures.some
    ∙ (λ i. Some (SamePath (sym c.in_ok-copy-in-Some.ensures i) (sym c.in_ok-copy-in-Some-2.ensures i)))

pub returns-in-None-clause-ok : goal.returns-in-None-clause-ok
returns-in-None-clause-ok c = found_none (λ (p : FileRow × FileRow). SamePath p.0.name p.1.name) (λ (p : FileRow × FileRow). is_same p.0 p.1)
    (pairs_of (map (λ e. e.1) c.args.files.now)) c.in-None.ensures.none
