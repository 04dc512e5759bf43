-- The configuration files of a content.
use Rattle.std.specs.Prelude.{ℕ, Bool, false, ◌&&◌, nat_le, List, ◌∷◌, length, Option, Some, None, Result, Ok, Err, codes, option_and_then, if◌then◌else◌}
use Rattle.std.specs.List.{filter_map}
use Rattle.std.specs.Option.{option_map}
use Rattle.std.specs.Str.{bytes_eq}
use Rattle.outside.specs.PathText.{path_of}
use Rattle.outside.specs.declared.path_error.PathError.{PathError}
use Rattle.settings_tree.specs.Content.{Contents}
use Rattle.metadata_links.specs.Fields.{fields_below}
use Rattle.metadata_links.specs.Texts.{text_in}
use Rattle.metadata_links.specs.declared.fields.Fields.{Fields}
use Rattle.metadata_links.specs.declared.file_row.FileRow.{FileRow}
use Rattle.metadata_links.specs.declared.manifest_error.ManifestError.{ManifestError}
use Rattle.metadata_links.specs.declared.manifest_error.ManifestError.TheVariants.{Incomplete, BadPath}

-- A configuration file lies below the folder `etc`.
abbrev pub is_etc_path : List (List ℕ) → Bool
is_etc_path (first ∷ second ∷ rest) = bytes_eq first (codes "etc")
is_etc_path _ = false

-- A template's path has 1 to 38 names.
abbrev pub is_template_path : List (List ℕ) → Bool
is_template_path path = nat_le 1 (length path) && nat_le (length path) 38

-- The path, where there is one and it passes the test.
abbrev pub passing : (List (List ℕ) → Bool) → Result (List (List ℕ)) PathError → Option (List (List ℕ))
passing test (Ok path) = if test path then Some path else None
passing test (Err e) = None

-- The row of a file with these two paths, or that one of them is bad.
abbrev pub row_with : List ℕ → Option (List (List ℕ)) → Option (List (List ℕ)) → Result FileRow ManifestError
row_with name (Some path) (Some template) = Ok (record { name = name; path = path; template = template })
row_with name _ _ = Err (BadPath name)

-- The row of a file with these two texts.
abbrev pub row_of : List ℕ → List ℕ → List ℕ → Result FileRow ManifestError
row_of name path template = row_with name (passing is_etc_path (path_of path)) (passing is_template_path (path_of template))

-- A file has one of its texts at least, and is incomplete where the other is missing.
abbrev pub file_with : List ℕ → Option (List ℕ) → Option (List ℕ) → Option (Result FileRow ManifestError)
file_with name None None = None
file_with name (Some path) (Some template) = Some (row_of name path template)
file_with name _ _ = Some (Err (Incomplete name))

-- The file that two fields make: its path and its template's path.
abbrev pub file_of : List ℕ → Fields → Option (Result FileRow ManifestError)
file_of name f = file_with name (option_and_then text_in f.one) (option_and_then text_in f.other)

-- The files that the fields of names make, each with its row or its fault.
abbrev pub files_from : List (List ℕ × Fields) → List (List ℕ × Result FileRow ManifestError)
files_from es = filter_map (λ e. option_map (λ r. (e.0, r)) (file_of e.0 e.1)) es

-- The files by name: the texts are at `configuration-files.NAME.path` and `configuration-files.NAME.template-path`.
abbrev pub files_in : Contents → List (List ℕ × Result FileRow ManifestError)
files_in content = files_from (fields_below content.values (codes "configuration-files") (codes "path") (codes "template-path"))
