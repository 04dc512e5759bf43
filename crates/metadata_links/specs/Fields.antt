-- The values at keys of three segments, `FIRST.NAME.ONE` and `FIRST.NAME.OTHER`, by name.
use Rattle.std.specs.Prelude.{ℕ, List, [], ◌∷◌, Option, Some, None, map}
use Rattle.std.specs.List.{filter_map}
use Rattle.std.specs.FinMap.{FinMap, get}
use Rattle.key_names.specs.Order.{key_cmp}
use Rattle.json_trees.specs.declared.scalar.Scalar.{Scalar}
use Rattle.settings_tree.specs.Walks.{entries_below}
use Rattle.metadata_links.specs.Rising.{rising}
use Rattle.metadata_links.specs.declared.fields.Fields.{Fields}

-- The second segment of a key of three segments.
abbrev pub name_in : List (List ℕ) → Option (List ℕ)
name_in (first ∷ name ∷ field ∷ []) = Some name
name_in _ = None

-- The names that are after a first segment, in keys of three segments that have a value.
abbrev pub names_below : FinMap key_cmp Scalar → List ℕ → List (List ℕ)
names_below values first = rising (filter_map (λ e. name_in e.0) (entries_below values (first ∷ [])))

-- What is at the two fields of a name.
abbrev pub fields_at : FinMap key_cmp Scalar → List ℕ → List ℕ → List ℕ → List ℕ → Fields
fields_at values first one other name = record { one = get values (first ∷ name ∷ one ∷ []); other = get values (first ∷ name ∷ other ∷ []) }

-- The fields of each name, by name.
abbrev pub fields_below : FinMap key_cmp Scalar → List ℕ → List ℕ → List ℕ → List (List ℕ × Fields)
fields_below values first one other = map (λ name. (name, fields_at values first one other name)) (names_below values first)
