-- Members of a JSON object in a reply, and the items of its lists. What isn't there, or is no text, counts as an empty text.
use Rattle.std.specs.Prelude.{ℕ, Bool, List, [], Option, Some, None, is_some, option_and_then, unwrap_or}
use Rattle.serde_json.specs.Data.{Data, array}
use Rattle.serde_json.specs.Find.{get, at, as_str}
use Rattle.json_trees.specs.Scalar.{values_of}
use Rattle.host_client.specs.Jobs.{text_in, list_in}

-- The items of a list; none of any other value.
abbrev pub items_in : Data → List Data
items_in (array items) = values_of items
items_in _ = []

abbrev pub items_of : Option Data → List Data
items_of None = []
items_of (Some value) = items_in value

-- The items of the list that is a member.
abbrev pub listed : List ℕ → Data → List Data
listed name value = items_of (get name value)

-- The items of the list at a place of a list.
abbrev pub items_at : ℕ → Data → List Data
items_at place value = items_of (at place value)

abbrev pub has_list : List ℕ → Data → Bool
has_list name value = is_some (list_in name value)

abbrev pub has_text : List ℕ → Data → Bool
has_text name value = is_some (text_in name value)

-- A text, or an empty one.
abbrev pub text_of : Data → List ℕ
text_of value = unwrap_or (as_str value) []

-- The text that is a member, or an empty one.
abbrev pub member_text : List ℕ → Data → List ℕ
member_text name value = unwrap_or (text_in name value) []

-- The text at a place of a list, or an empty one.
abbrev pub text_at : ℕ → Data → List ℕ
text_at place value = unwrap_or (option_and_then as_str (at place value)) []
