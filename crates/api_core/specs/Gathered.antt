-- For private clauses: what is at the keys of a list.
use Rattle.std.specs.Prelude.{ℕ, Bool, List, [], ◌∷◌, Option, Some, None, fold, nat_lt, if◌then◌else◌}
use Rattle.std.specs.List.{list_any}
use Rattle.std.specs.Option.{option_map}
use Rattle.std.specs.FinMap.{FinMap, empty, entries, insert}
use Rattle.key_names.specs.Order.{key_cmp}
use Rattle.key_names.specs.Key.{is_prefix}
use Rattle.json_trees.specs.declared.scalar.Scalar.{Scalar}
use Rattle.metadata_links.specs.Nearest.{near, near_len}
use Rattle.settings_tree.specs.Walks.{entries_below}
use Rattle.settings_machine.specs.World.{Key}
use Rattle.settings_machine.specs.Opening.{Values}
use Rattle.settings_machine.specs.declared.refusal.Refusal.{Refusal}
use Rattle.settings_machine.specs.declared.refusal.Refusal.TheVariants.{NoKey, NoName}

-- Something is there.
abbrev pub there : Option (Unit {0})
there = Some tt

-- The map with a value at the key, where one is given.
abbrev pub with_found : {X : Type 0} → FinMap key_cmp X → Key → Option X → FinMap key_cmp X
with_found m key None = m
with_found m key (Some x) = insert m key x

-- What is at the keys.
abbrev pub gathered : {X : Type 0} → (Key → Option X) → List Key → FinMap key_cmp X
gathered at keys = fold (λ m key. with_found m key (at key)) empty keys

-- The refusal of a key, where one is given.
abbrev pub no_key : Option Key → Option Refusal
no_key key = option_map NoKey key

-- The refusal of a name, where one is given.
abbrev pub no_name : Option (List ℕ) → Option Refusal
no_name name = option_map NoName name

-- Whether there is a value at the key or below it.
abbrev pub has_below : Values → Key → Bool
has_below values key = list_any (λ e. is_prefix key e.0) (entries values)

-- With these pairs put, one after another.
abbrev pub with_pairs : Values → List (Key × Scalar) → Values
with_pairs m pairs = fold (λ m e. insert m e.0 e.1) m pairs

-- What is below a first name and each of the names.
abbrev pub all_named : Values → List ℕ → List (List ℕ) → Values
all_named values first names = fold (λ m name. with_pairs m (entries_below values (first ∷ name ∷ []))) empty names

-- Lists of services by key.
abbrev pub Lists : Type 0
Lists = FinMap key_cmp (List (List ℕ))

-- Whether the key has a nearest list.
abbrev pub has_near : Lists → Key × Unit {0} → Bool
has_near index e = nat_lt 0 (near_len index e.0)

-- The key with its nearest list.
abbrev pub near_entry : Lists → Key × Unit {0} → Key × List (List ℕ)
near_entry index e = (e.0, near index e.0)

-- The nearest list of the key, where it has one.
abbrev pub nearest_entry : Lists → Key → List (Key × List (List ℕ))
nearest_entry index key = if nat_lt 0 (near_len index key) then (key, near index key) ∷ [] else []
