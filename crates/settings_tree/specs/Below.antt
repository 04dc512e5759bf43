-- The values at keys and below them.
use Rattle.std.specs.Prelude.{◌≡◌, ◌++◌, ℕ, Bool, List, [], ◌∷◌, All, IsSome, IsTrue, None, filter, if◌then◌else◌}
use Rattle.std.specs.List.{list_any}
use Rattle.std.specs.FinMap.{FinMap, get, entries}
use Rattle.key_names.specs.Key.{is_prefix}
use Rattle.key_names.specs.Order.{key_cmp}
use Rattle.json_trees.specs.declared.scalar.Scalar.{Scalar}
use Rattle.settings_tree.specs.Walks.{HasNoneBelow}

-- Values by key.
abbrev pub Values : Type 0
Values = FinMap key_cmp Scalar

-- Whether the key begins with one of the keys.
abbrev pub is_below_one : List (List (List ℕ)) → List (List ℕ) → Bool
is_below_one keys key = list_any (λ prefix. is_prefix prefix key) keys

-- The values whose keys begin with one of the keys.
abbrev pub values_below : Values → List (List (List ℕ)) → List (List (List ℕ) × Scalar)
values_below values keys = filter (λ e. is_below_one keys e.0) (entries values)

-- There is some value at the key or below it.
pub record HasBelow (values : Values) (prefix : List (List ℕ)) : Type 0 where
  pub key : List (List ℕ)
  pub begins : IsTrue (is_prefix prefix key)
  pub there : IsSome (get values key)

-- There is some value at or below each of the keys before this one, and none at this one or below it.
pub record IsFirstWithout (values : Values) (keys : List (List (List ℕ))) (key : List (List ℕ)) : Type 0 where
  pub before : List (List (List ℕ))
  pub after : List (List (List ℕ))
  pub among : keys ≡ before ++ key ∷ after
  pub others : All (HasBelow values) before
  pub none : HasNoneBelow values key None

-- ---- for private clauses

-- The value, where its key begins with one of the keys.
abbrev pub one_value : List (List (List ℕ)) → List (List ℕ) → Scalar → List (List (List ℕ) × Scalar)
one_value keys key value = if is_below_one keys key then (key, value) ∷ [] else []
