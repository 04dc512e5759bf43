use Rattle.std.proofs.Common.{◌+◌, drop, not, Some, sym, ◌∙◌, ap}
use Rattle.std.specs.FinMap.{keys}
use Rattle.metadata_links.specs.Faults.{first_of, has_name, unknown_files}
use Rattle.metadata_links.specs.declared.manifest_error.ManifestError.TheVariants.{UnknownFile}
use Rattle.metadata_links.proofs.Named.{missing_known}
use Rattle.metadata_links.proofs.Rests.{rest_here, rest_more, filtered_first, filtered_rest}
use Rattle.metadata_links.proofs.service_links.check_files.Goals as goal

pub returns-then-is_none-clause-err : goal.returns-then-is_none-clause-err
returns-then-is_none-clause-err c = λ other.
    let missing = missing_known c.args.files.now c.as_bytes.result.now c.file-item.result c.get.result c.is_none.result c.get.ensures c.is_none.ensures
    (c.as_bytes.ensures.value ∙ c.as_str.ensures) in
    sym (ap first_of (rest_here (unknown_files (keys c.args.files.now) c.args.service.now) c.args.listed.now c.loop-file.file-index c.file-item.result _
    c.loop-file-test.true c.file-item.is c.loop-file.invariant))
    ∙ filtered_first (UnknownFile c.args.service.now) (λ file. not (has_name (keys c.args.files.now) file)) c.file-item.result
    (drop (c.loop-file.file-index + 1) c.args.listed.now) (missing ∙ c.if-is_none.true)
    ∙ (λ i. Some (UnknownFile (sym c.in_ok-copy.ensures i) (sym c.in_ok-copy-2.ensures i)))

pub loop-file-preserved : goal.loop-file-preserved
loop-file-preserved c =
    let missing = missing_known c.args.files.now c.as_bytes.result.now c.file-item.result c.get.result c.is_none.result c.get.ensures c.is_none.ensures
    (c.as_bytes.ensures.value ∙ c.as_str.ensures) in
    rest_more (unknown_files (keys c.args.files.now) c.args.service.now) c.args.listed.now c.loop-file.file-index c.file-item.result _ c.loop-file-test.true
    c.file-item.is c.loop-file.invariant
    (filtered_rest (UnknownFile c.args.service.now) (λ file. not (has_name (keys c.args.files.now) file)) c.file-item.result
    (drop (c.loop-file.file-index + 1) c.args.listed.now) (missing ∙ c.if-is_none.false))
