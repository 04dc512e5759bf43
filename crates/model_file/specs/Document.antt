-- The sections of a document.
use Rattle.std.specs.Prelude.{ℕ, Bool, true, false, List, [], ◌∷◌, unwrap_or, codes}
use Rattle.toml.specs.Data.{Data, string, integer, float, boolean, datetime, array, table, Members, no_members, get_member}

-- The names of the six sections, in the order in which they are read.
abbrev pub sections : List (List ℕ)
sections = codes "os" ∷ codes "types" ∷ codes "settings" ∷ codes "services" ∷ codes "configuration-files" ∷ codes "metadata" ∷ []

-- What is under a section's name; a section that is missing is an empty table.
abbrev pub section : List ℕ → Members → Data
section name document = unwrap_or (get_member name document) (table no_members)

-- The value is a table.
abbrev pub is_table : Data → Bool
is_table (string s) = false
is_table (integer z) = false
is_table (float x) = false
is_table (boolean b) = false
is_table (datetime d) = false
is_table (array ds) = false
is_table (table ms) = true

-- The members of a table; another value has none.
abbrev pub members_of : Data → Members
members_of (string s) = no_members
members_of (integer z) = no_members
members_of (float x) = no_members
members_of (boolean b) = no_members
members_of (datetime d) = no_members
members_of (array ds) = no_members
members_of (table ms) = ms

-- The members of a section.
abbrev pub section_members : List ℕ → Members → Members
section_members name document = members_of (section name document)
