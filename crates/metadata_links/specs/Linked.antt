-- What holds of the services of a manifest: nothing in them leads nowhere.
use Rattle.std.specs.Prelude.{Bool}
use Rattle.std.specs.List.{list_all}
use Rattle.std.specs.FinMap.{FinMap, entries, keys}
use Rattle.key_names.specs.Order.{bytes_cmp}
use Rattle.metadata_links.specs.Faults.{has_name}
use Rattle.metadata_links.specs.Words.{has_word}
use Rattle.metadata_links.specs.declared.file_row.FileRow.{FileRow}
use Rattle.metadata_links.specs.declared.service.Service.{Service}

-- Whether each command of each service has a word.
abbrev pub have_words : FinMap bytes_cmp Service → Bool
have_words services = list_all (λ e. list_all has_word e.1.commands) (entries services)

-- Whether each file that a service lists is among the files.
abbrev pub have_rows : FinMap bytes_cmp FileRow → FinMap bytes_cmp Service → Bool
have_rows files services = list_all (λ e. list_all (has_name (keys files)) e.1.files) (entries services)
