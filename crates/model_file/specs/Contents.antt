-- What a document gives to a model.
use Rattle.std.specs.Prelude.{ℕ, List, [], ◌∷◌, Option, Some, None, flat_map, codes}
use Rattle.std.specs.FinMap.{FinMap, insert, empty}
use Rattle.key_names.specs.Order.{bytes_cmp, key_cmp}
use Rattle.json_trees.specs.declared.scalar.Scalar.{Scalar}
use Rattle.settings_maps.specs.Maps.{with_value}
use Rattle.settings_tree.specs.Content.{Contents}
use Rattle.toml.specs.Data.{Data, Members}
use Rattle.toml_values.specs.Document.{named}
use Rattle.model_file.specs.Document.{section_members}
use Rattle.toml_values.specs.Values.{text_of}
use Rattle.model_file.specs.Entries.{Path, scalar_found}
use Rattle.model_file.specs.Checks.{section_entries, all_but_last, last_name}
use Rattle.model_file.specs.declared.found.Found.{Found}

-- A value, if there is one, with what leads to it.
abbrev pub with_found : {K V : Type 0} → K → Option V → List (K × V)
with_found key None = []
with_found key (Some value) = (key, value) ∷ []

-- The entries that represent texts, each name with its text.
abbrev pub os_texts : List (List ℕ × Data) → List (List ℕ × List ℕ)
os_texts entries = flat_map (λ entry. with_found entry.0 (text_of entry.1)) entries

-- The names of the operating system with their texts.
abbrev pub os_names : Members → List (List ℕ × List ℕ)
os_names document = os_texts (named (section_members (codes "os") document))

-- The scalars of a section, by the paths below it.
abbrev pub scalars : List (Path × Found) → List (Path × Scalar)
scalars entries = flat_map (λ entry. with_found entry.0 (scalar_found entry.1)) entries

-- The values of a section, each put at the key of the section's name and its path, one after the other.
abbrev pub with_values : List ℕ → List (Path × Scalar) → FinMap key_cmp Scalar → FinMap key_cmp Scalar
with_values name [] values = values
with_values name ((path, value) ∷ pairs) values = with_values name pairs (insert values (name ∷ path) value)

-- Metadata, each put at the key that leads to it and under its last name, one after the other.
abbrev pub with_metadata : List (Path × Scalar) → FinMap key_cmp (FinMap bytes_cmp Scalar) → FinMap key_cmp (FinMap bytes_cmp Scalar)
with_metadata [] metadata = metadata
with_metadata ((path, value) ∷ pairs) metadata = with_metadata pairs (with_value metadata (all_but_last path) (last_name path) value)

-- With the values of a section of the document.
abbrev pub with_section : List ℕ → Members → FinMap key_cmp Scalar → FinMap key_cmp Scalar
with_section name document values = with_values name (scalars (section_entries name document)) values

-- The values of three sections, and the metadata; no key is weak.
abbrev pub contents_of : Members → Contents
contents_of document = record {
  values = with_section (codes "configuration-files") document (with_section (codes "services") document (with_section (codes "settings") document empty));
  metadata = with_metadata (scalars (section_entries (codes "metadata") document)) empty;
  weak = [];
}
