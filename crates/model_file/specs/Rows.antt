-- The rows of the section `types`.
use Rattle.std.specs.Prelude.{ℕ, List, [], map, codes, unwrap_or}
use Rattle.toml.specs.Data.{Data, Members}
use Rattle.toml_values.specs.Document.{named}
use Rattle.model_file.specs.Document.{section_members}
use Rattle.toml_values.specs.Values.{text_of}

-- The texts of rows: of a pattern and of its word, each.
abbrev pub RowTexts : Type 0
RowTexts = List (List ℕ × List ℕ)

-- The texts of a pattern and of its word. A word that is no text counts as the empty text, which spells no word.
abbrev pub row_of : List ℕ × Data → List ℕ × List ℕ
row_of entry = (entry.0, unwrap_or (text_of entry.1) [])

-- The texts of the rows, in the table's order.
abbrev pub row_texts : Members → RowTexts
row_texts document = map row_of (named (section_members (codes "types") document))
