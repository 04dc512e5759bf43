-- Steps from child to child, and from node to node: for private clauses.
use Rattle.std.specs.Prelude.{◌≡◌, ◌<◌, ℕ, List, [], ◌++◌, length, slice_index_or, IsTrue, Some, Ok}
use Rattle.std.specs.FinMap.{FinMap, get}
use Rattle.key_names.specs.Order.{key_cmp}
use Rattle.key_names.specs.Key.{is_prefix}
use Rattle.settings_maps.specs.Maps.{IsLeastAfter}
use Rattle.template_eval.specs.Place.{Path}
use Rattle.template_eval.specs.Children.{name_below, names_below}
use Rattle.template_eval.specs.Rendered.{Rendered, onto}

-- The name that a key has at the level of the children of a path.
abbrev pub name_at : Path → Path → List ℕ
name_at path key = slice_index_or key (length path) []

-- The key has this value, and goes on below the parent, by the least name past that of another key.
pub record IsNextChild {X : Type 0} (values : FinMap key_cmp X) (parent after key : Path) (value : X) : Type 0 where
  pub stands : get values key ≡ Some value
  pub begins : IsTrue (is_prefix parent key)
  pub longer : length parent < length key
  pub next : IsLeastAfter (names_below values parent) (name_below parent after) (name_at parent key) tt

-- The bytes that were rendered were added to those that were there.
pub record Adds (r : Rendered) (old new : List ℕ) : Type 0 where
  pub bytes : List ℕ
  pub is : r ≡ Ok bytes
  pub added : new ≡ old ++ bytes

-- Some bytes of the whole were added, and this is left of it.
pub record Going (whole left : Rendered) (old new : List ℕ) : Type 0 where
  pub bytes : List ℕ
  pub is : whole ≡ onto bytes left
  pub added : new ≡ old ++ bytes
