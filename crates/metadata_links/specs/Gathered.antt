-- How the fields of names are gathered from a walk through values; for private clauses.
use Rattle.std.specs.Prelude.{ℕ, List, [], ◌∷◌, Some, None, unwrap_or, if◌then◌else◌}
use Rattle.std.specs.FinMap.{FinMap, get, insert, remove}
use Rattle.std.specs.Str.{bytes_eq}
use Rattle.key_names.specs.Order.{bytes_cmp}
use Rattle.json_trees.specs.declared.scalar.Scalar.{Scalar}
use Rattle.metadata_links.specs.declared.fields.Fields.{Fields}

-- The fields of a name that has no value.
abbrev pub no_fields : Fields
no_fields = record { one = None; other = None }

-- The fields that are known of a name.
abbrev pub fields_of : FinMap bytes_cmp Fields → List ℕ → Fields
fields_of found name = unwrap_or (get found name) no_fields

-- The fields with the value in the one that is named, if either is.
abbrev pub with_field : List ℕ → List ℕ → List ℕ → Scalar → Fields → Fields
with_field one other field value f = if bytes_eq field one then record f { one = Some value } else if bytes_eq field other then record f { other = Some value }
    else f

-- The map with the value in a field of a name.
abbrev pub with_named : List ℕ → List ℕ → List ℕ → List ℕ → Scalar → FinMap bytes_cmp Fields → FinMap bytes_cmp Fields
with_named one other name field value found = insert (remove found name) name (with_field one other field value (fields_of found name))

-- The map with the value at a key, where the key has three segments.
abbrev pub with_value : List ℕ → List ℕ → FinMap bytes_cmp Fields → List (List ℕ) × Scalar → FinMap bytes_cmp Fields
with_value one other found (first ∷ name ∷ field ∷ [], value) = with_named one other name field value found
with_value one other found (_, value) = found
