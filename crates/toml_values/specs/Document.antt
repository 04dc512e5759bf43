-- The table that a text is, and the entries of a table.
use Rattle.std.specs.Prelude.{ℕ, List, [], ◌∷◌, Option, Some, None, String, if◌then◌else◌}
use Rattle.std.specs.BTreeMap.{BTreeMap}
use Rattle.std.specs.declared.alloc.Global.{Global}
use Rattle.std.specs.List.{list_any}
use Rattle.std.specs.Ordering.{eq_by_cmp}
use Rattle.std.specs.Str.{is_utf8}
use Rattle.key_names.specs.Order.{bytes_cmp}
use Rattle.toml.specs.Data.{Data, Members, no_members, member}
use Rattle.toml.specs.Parse.{parse_document}
use Rattle.toml.specs.View.{table_view}
use Rattle.toml.specs.declared.value.Value.{Value}

-- The table that the bytes are, where they are UTF-8 and `toml` reads them.
abbrev pub table_of : List ℕ → Option Members
table_of text = if is_utf8 text then parse_document text else None

-- Each name with what is under it, in the table's order.
abbrev pub named : Members → List (List ℕ × Data)
named no_members = []
named (member name d ms) = (name, d) ∷ named ms

-- The first name that is none of these.
abbrev pub other_name : List (List ℕ) → Members → Option (List ℕ)
other_name names no_members = None
other_name names (member name d ms) = if list_any (eq_by_cmp bytes_cmp name) names then other_name names ms else Some name

-- For private clauses: the members of a table that may be missing.
abbrev pub members_in : Option (BTreeMap (String Global) Value) → Members
members_in None = no_members
members_in (Some found) = table_view found
