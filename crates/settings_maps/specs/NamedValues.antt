-- Lists of named values that rise by name.
use Rattle.std.specs.Prelude.{◌≡◌, ◌<◌, ◌≤◌, ℕ, List, Option, length, IsTrue}
use Rattle.std.specs.List.{HoldsAt}
use Rattle.std.specs.List.Sorted.{IsPartitionPoint}
use Rattle.std.specs.declared.cmp.Ordering.TheVariants.{Less, Greater}
use Rattle.std.specs.FinMap.{is_sorted}
use Rattle.key_names.specs.Order.{bytes_cmp}
use Rattle.settings_maps.specs.Maps.{IsPast}
use Rattle.json_trees.specs.declared.scalar.Scalar.{Scalar}

-- Each name is below those after it.
abbrev pub RisesByName : List (List ℕ × Scalar) → Type 0
RisesByName es = IsTrue (is_sorted bytes_cmp es)

-- The name is at this index.
pub record IsNameAt (es : List (List ℕ × Scalar)) (name : List ℕ) (i : ℕ) : Type 0 where
  pub within : i < length es
  pub same : HoldsAt (λ e. e.0 ≡ name) es i

-- The names before this index are below the name, and the others above it.
pub record IsNameBetween (es : List (List ℕ × Scalar)) (name : List ℕ) (i : ℕ) : Type 0 where
  pub within : i ≤ length es
  pub parts : IsPartitionPoint (λ e. bytes_cmp e.0 name ≡ Less) (λ e. bytes_cmp e.0 name ≡ Greater) es i

-- The names from this index on, and no others, are past the given one.
pub record IsPlaceAfter (es : List (List ℕ × Scalar)) (after : Option (List ℕ)) (i : ℕ) : Type 0 where
  pub within : i ≤ length es
  pub parts : IsPartitionPoint (λ e. ¬ IsPast bytes_cmp after e.0) (λ e. IsPast bytes_cmp after e.0) es i
