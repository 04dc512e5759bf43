use Rattle.std.proofs.Common.{◌≡◌, ◌++◌, List, ℕ, Some, map, sym, ◌∙◌, ap, subst}
use Rattle.metadata_links.specs.Faults.{first_of, same_paths, nested_paths}
use Rattle.metadata_links.specs.declared.file_row.FileRow.{FileRow}
use Rattle.metadata_links.proofs.Faultless.{fault_of_paths, fault_of_service, fault_of_list, faultless}
use Rattle.std.specs.FinMap.{entries, keys}
use Rattle.metadata_links.proofs.Linking.{words_sound, rows_sound}
use Rattle.metadata_links.proofs.manifest.Manifest.of.Goals as goal
use Rattle.outside.proofs.Results.{handed_on}

pub returns-in_err-check_paths-clause-fault : goal.returns-in_err-check_paths-clause-fault
returns-in_err-check_paths-clause-fault c =
    handed_on c.from_residual-in_err-check_paths.result c.in_err-check_paths.field-0.0 _ c.from_residual-in_err-check_paths.ensures.1
    (λ other. fault_of_paths c.args.content.now c.in_ok-files.files c.in_ok-files.ensures.ok c.in_err-check_paths.field-0.0
    (subst (λ (l : List (List ℕ × FileRow)). first_of (same_paths (map (λ e. e.1) l) ++ nested_paths (map (λ e. e.1) l)) ≡ Some c.in_err-check_paths.field-0.0)
    c.as_slice.ensures (c.in_err-check_paths.ensures.err other)))

pub returns-in_err-check_services-clause-fault : goal.returns-in_err-check_services-clause-fault
returns-in_err-check_services-clause-fault c =
    handed_on c.from_residual-in_err-check_services.result c.in_err-check_services.field-0.0 _ c.from_residual-in_err-check_services.ensures.1
    (λ other. fault_of_service c.args.content.now c.in_ok-files.files c.in_ok-files.ensures.ok
    (ap (λ (l : List (List ℕ × FileRow)). same_paths (map (λ e. e.1) l)) (sym c.as_slice.ensures) ∙ c.in_ok-check_paths.ensures.same)
    (ap (λ (l : List (List ℕ × FileRow)). nested_paths (map (λ e. e.1) l)) (sym c.as_slice.ensures) ∙ c.in_ok-check_paths.ensures.nested)
    c.in_ok-services.services c.in_ok-services.ensures c.in_err-check_services.field-0.0 (c.in_err-check_services.ensures.err other))

pub returns-in_err-index-clause-fault : goal.returns-in_err-index-clause-fault
returns-in_err-index-clause-fault c =
    handed_on c.from_residual-in_err-index.result c.in_err-index.field-0.0 _ c.from_residual-in_err-index.ensures.1
    (λ other. fault_of_list c.args.content.now c.in_ok-files.files c.in_ok-files.ensures.ok
    (ap (λ (l : List (List ℕ × FileRow)). same_paths (map (λ e. e.1) l)) (sym c.as_slice.ensures) ∙ c.in_ok-check_paths.ensures.same)
    (ap (λ (l : List (List ℕ × FileRow)). nested_paths (map (λ e. e.1) l)) (sym c.as_slice.ensures) ∙ c.in_ok-check_paths.ensures.nested)
    c.in_ok-services.services c.in_ok-services.ensures c.in_ok-check_services.ensures.ok c.in_err-index.field-0.0 (c.in_err-index.ensures.err other))

pub returns-clause-ok : goal.returns-clause-ok
returns-clause-ok c = record {
  sound = faultless c.args.content.now c.in_ok-files.files c.in_ok-files.ensures.ok
      (ap (λ (l : List (List ℕ × FileRow)). same_paths (map (λ e. e.1) l)) (sym c.as_slice.ensures) ∙ c.in_ok-check_paths.ensures.same)
      (ap (λ (l : List (List ℕ × FileRow)). nested_paths (map (λ e. e.1) l)) (sym c.as_slice.ensures) ∙ c.in_ok-check_paths.ensures.nested)
      c.in_ok-services.services c.in_ok-services.ensures c.in_ok-check_services.ensures.ok c.in_ok-index.ensures.sound;
  services = c.in_ok-services.ensures;
  files = c.in_ok-files.ensures.ok;
  index = c.in_ok-index.ensures.ok;
}

pub invariant_of-result : goal.invariant_of-result
invariant_of-result c = record {
  worded = words_sound (keys c.in_ok-files.files) (entries c.in_ok-services.services) c.in_ok-check_services.ensures.ok;
  filed = rows_sound (keys c.in_ok-files.files) (entries c.in_ok-services.services) c.in_ok-check_services.ensures.ok;
}
