-- The children of a path: what is directly below it in the tree of the values.
use Rattle.std.specs.Prelude.{ℕ, List, [], ◌∷◌, ◌++◌, map, length, slice_get, Option, None, if◌then◌else◌}
use Rattle.std.specs.Option.{option_map}
use Rattle.std.specs.List.{filter_map}
use Rattle.std.specs.FinMap.{FinMap, entries, from_entries, keys}
use Rattle.key_names.specs.Order.{bytes_cmp, key_cmp}
use Rattle.key_names.specs.Key.{is_prefix}
use Rattle.template_eval.specs.Place.{Path, Place, in_tree}

-- The name that a key has directly below a path, where it begins with the path and goes on.
abbrev pub name_below : Path → Path → Option (List ℕ)
name_below path key = if is_prefix path key then slice_get key (length path) else None

-- The names that the keys of the values have directly below a path, as a set.
abbrev pub names_below : {X : Type 0} → FinMap key_cmp X → Path → FinMap bytes_cmp (Unit {0})
names_below values path =
    from_entries (filter_map (λ e. option_map (λ name. (name, tt)) (name_below path e.0)) (entries values))

-- The child of a path with this name.
abbrev pub child : Path → List ℕ → Place
child path name = in_tree (path ++ name ∷ [])

-- The children of a path, rising by name.
abbrev pub children_below : {X : Type 0} → FinMap key_cmp X → Path → List Place
children_below values path = map (child path) (keys (names_below values path))
