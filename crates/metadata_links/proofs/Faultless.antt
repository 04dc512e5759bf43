-- The first fault of a content, group by group.
use Rattle.std.proofs.Common.{◌≡◌, ◌++◌, ℕ, List, [], map, Some, sym, ◌∙◌, ap, subst}
use Rattle.std.specs.FinMap.{FinMap, entries, keys}
use Rattle.std.specs.List.{flat_map}
use Rattle.key_names.specs.Order.{bytes_cmp}
use Rattle.settings_tree.specs.Content.{Contents}
use Rattle.metadata_links.specs.Faults.{first_of, faults, faults_in, values_in, names_of}
use Rattle.metadata_links.specs.Faults.{same_paths, nested_paths, service_faults, list_faults, has_name, is_among}
use Rattle.metadata_links.specs.Files.{files_in}
use Rattle.metadata_links.specs.Lists.{lists_in}
use Rattle.metadata_links.specs.Services.{services_in}
use Rattle.metadata_links.specs.declared.file_row.FileRow.{FileRow}
use Rattle.metadata_links.specs.declared.service.Service.{Service}
use Rattle.metadata_links.specs.declared.manifest_error.ManifestError.{ManifestError}
use Rattle.metadata_links.proofs.Filtered.{sound, faults_sound, values_sound, names_sound}
use Rattle.metadata_links.proofs.Rests.{first_left, first_right, none_both}

module _ (content : Contents) where
  module _ (files : FinMap bytes_cmp FileRow) (are : sound (entries files) ≡ files_in content) where
    no_file : faults_in (files_in content) ≡ []
    no_file = ap faults_in (sym are) ∙ faults_sound (entries files)

    rows : map (λ e. e.1) (entries files) ≡ values_in (files_in content)
    rows = sym (values_sound (entries files)) ∙ ap values_in are

    known : keys files ≡ names_of (files_in content)
    known = sym (names_sound (entries files)) ∙ ap names_of are

    -- A pair of files.
    pub fault_of_paths : (e : ManifestError) → first_of (same_paths (map (λ e. e.1) (entries files)) ++ nested_paths (map (λ e. e.1) (entries files))) ≡ Some e
        → first_of (faults content) ≡ Some e
    fault_of_paths e first = first_right (faults_in (files_in content)) _ e no_file
        (first_left _ _ e (subst (λ (l : List FileRow). first_of (same_paths l ++ nested_paths l) ≡ Some e) rows first))

    module _ (same : same_paths (map (λ e. e.1) (entries files)) ≡ []) (nested : nested_paths (map (λ e. e.1) (entries files)) ≡ [])
        (services : FinMap bytes_cmp Service) (stand : entries services ≡ services_in content) where
      no_paths : same_paths (values_in (files_in content)) ++ nested_paths (values_in (files_in content)) ≡ []
      no_paths = none_both _ _ (ap same_paths (sym rows) ∙ same) (ap nested_paths (sym rows) ∙ nested)

      linked : flat_map (service_faults (keys files)) (entries services) ≡ flat_map (service_faults (names_of (files_in content))) (services_in content)
      linked = ap (λ l. flat_map (service_faults l) (entries services)) known ∙ ap (flat_map (service_faults (names_of (files_in content)))) stand

      among : flat_map (list_faults (is_among (Some services))) (lists_in content.metadata) ≡ flat_map (list_faults (has_name (names_of (services_in content))))
          (lists_in content.metadata)
      among = ap (λ (l : List (List ℕ × Service)). flat_map (list_faults (has_name (names_of l))) (lists_in content.metadata)) stand

      -- A service.
      pub fault_of_service : (e : ManifestError) → first_of (flat_map (service_faults (keys files)) (entries services)) ≡ Some e
          → first_of (faults content) ≡ Some e
      fault_of_service e first = first_right (faults_in (files_in content)) _ e no_file
          (first_right _ _ e no_paths (first_left _ _ e (ap first_of (sym linked) ∙ first)))

      module _ (sound_services : flat_map (service_faults (keys files)) (entries services) ≡ []) where
        -- A list of the metadata.
        pub fault_of_list : (e : ManifestError) → first_of (flat_map (list_faults (is_among (Some services))) (lists_in content.metadata)) ≡ Some e
            → first_of (faults content) ≡ Some e
        fault_of_list e first = first_right (faults_in (files_in content)) _ e no_file
            (first_right _ _ e no_paths (first_right _ _ e (sym linked ∙ sound_services) (ap first_of (sym among) ∙ first)))

        -- None at all.
        pub faultless : flat_map (list_faults (is_among (Some services))) (lists_in content.metadata) ≡ [] → faults content ≡ []
        faultless none = none_both _ _ no_file (none_both _ _ no_paths (none_both _ _ (sym linked ∙ sound_services) (sym among ∙ none)))
