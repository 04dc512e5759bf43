-- What is wrong with a content's services, files and metadata, in the order in which it is answered.
use Rattle.std.specs.Prelude.{ℕ, Bool, true, ◌||◌, not, List, [], ◌∷◌, ◌++◌, map, filter, Option, Some, None, Result, Ok, Err}
use Rattle.std.specs.List.{flat_map, filter_map, list_any, enumerate_from}
use Rattle.std.specs.FinMap.{FinMap, keys}
use Rattle.std.specs.Ordering.{eq_by_cmp}
use Rattle.std.specs.Result.{result_ok}
use Rattle.key_names.specs.Order.{bytes_cmp}
use Rattle.outside.specs.Names.{path_cmp, is_below}
use Rattle.settings_tree.specs.Content.{Contents}
use Rattle.metadata_links.specs.Files.{files_in}
use Rattle.metadata_links.specs.Lists.{lists_in}
use Rattle.metadata_links.specs.Services.{services_in}
use Rattle.metadata_links.specs.Words.{has_word}
use Rattle.metadata_links.specs.declared.file_row.FileRow.{FileRow}
use Rattle.metadata_links.specs.declared.service.Service.{Service}
use Rattle.metadata_links.specs.declared.manifest_error.ManifestError.{ManifestError}
use Rattle.metadata_links.specs.declared.manifest_error.ManifestError.TheVariants.{SamePath, NestedPath, UnknownFile, EmptyCommand, UnknownService}

-- The first of a list.
abbrev pub first_of : {X : Type 0} → List X → Option X
first_of [] = None
first_of (x ∷ xs) = Some x

-- Whether the name is among these.
abbrev pub has_name : List (List ℕ) → List ℕ → Bool
has_name names name = list_any (eq_by_cmp bytes_cmp name) names

-- ---- the files one by one

-- The fault of a result, if it is one.
abbrev pub fault_in : {T : Type 0} → Result T ManifestError → List ManifestError
fault_in (Ok x) = []
fault_in (Err e) = e ∷ []

-- The faults of what is known by name or by key.
abbrev pub faults_in : {K T : Type 0} → List (K × Result T ManifestError) → List ManifestError
faults_in es = flat_map (λ e. fault_in e.1) es

-- The values that have no fault.
abbrev pub values_in : {K T : Type 0} → List (K × Result T ManifestError) → List T
values_in es = filter_map (λ e. result_ok e.1) es

-- ---- pairs of files

-- Each element with each that is after it, by the first and then by the second.
abbrev pub pairs_of : {X : Type 0} → List X → List (X × X)
pairs_of [] = []
pairs_of (x ∷ xs) = map (λ y. (x, y)) xs ++ pairs_of xs

-- Whether both files have one path.
abbrev pub is_same : FileRow → FileRow → Bool
is_same one other = eq_by_cmp path_cmp one.path other.path

-- Whether one file's path is strictly below the other's.
abbrev pub is_nested : FileRow → FileRow → Bool
is_nested one other = is_below one.path other.path || is_below other.path one.path

-- The pairs of files with one path.
abbrev pub same_paths : List FileRow → List ManifestError
same_paths rows = map (λ p. SamePath p.0.name p.1.name) (filter (λ p. is_same p.0 p.1) (pairs_of rows))

-- The pairs of files of which one path is strictly below the other.
abbrev pub nested_paths : List FileRow → List ManifestError
nested_paths rows = map (λ p. NestedPath p.0.name p.1.name) (filter (λ p. is_nested p.0 p.1) (pairs_of rows))

-- ---- the services

-- The listed files that aren't there.
abbrev pub unknown_files : List (List ℕ) → List ℕ → List (List ℕ) → List ManifestError
unknown_files known service files = map (λ file. UnknownFile service file) (filter (λ file. not (has_name known file)) files)

-- The commands without a word, by their places, counted from the given one.
abbrev pub empty_from : List ℕ → ℕ → List (List ℕ) → List ManifestError
empty_from service place commands = map (λ e. EmptyCommand service e.0) (filter (λ e. not (has_word e.1)) (enumerate_from place commands))

-- The commands without a word, by their places.
abbrev pub empty_commands : List ℕ → List (List ℕ) → List ManifestError
empty_commands service commands = empty_from service 0 commands

-- The faults of a service.
abbrev pub service_faults : List (List ℕ) → List ℕ × Service → List ManifestError
service_faults known e = unknown_files known e.0 e.1.files ++ empty_commands e.0 e.1.commands

-- ---- the metadata

-- The faults of a list of services: that it is none, or the services that aren't there.
abbrev pub list_faults : (List ℕ → Bool) → List (List ℕ) × Result (List (List ℕ)) ManifestError → List ManifestError
list_faults is_known (key, Err e) = e ∷ []
list_faults is_known (key, Ok names) = map (λ name. UnknownService key name) (filter (λ name. not (is_known name)) names)

-- Whether a service is among those given, if any are.
abbrev pub is_among : Option (FinMap bytes_cmp Service) → List ℕ → Bool
is_among None name = true
is_among (Some services) name = has_name (keys services) name

-- ---- all of them

-- The names in a list of what is known by name.
abbrev pub names_of : {T : Type 0} → List (List ℕ × T) → List (List ℕ)
names_of es = map (λ e. e.0) es

-- The faults in five groups: each file by itself, pairs of files with one path, pairs of nested paths, the services, the metadata.
abbrev pub faults : Contents → List ManifestError
faults content =
    faults_in (files_in content)
    ++ ((same_paths (values_in (files_in content)) ++ nested_paths (values_in (files_in content)))
    ++ (flat_map (service_faults (names_of (files_in content))) (services_in content)
    ++ flat_map (list_faults (has_name (names_of (services_in content)))) (lists_in content.metadata)))
