-- What the files of a data directory represent, said path by path.
use Rattle.std.specs.Prelude.{◌≡◌, ℕ, List, [], ◌∷◌, codes, Bool, false, Option, Some, None, IsSome, MatchOption, if◌then◌else◌}
use Rattle.outside.specs.Names.{Names}
use Rattle.outside.specs.Tree.{Node, file}
use Rattle.commit_journal.specs.Files.{Files}
use Rattle.settings_tree.specs.Change.{Place}
use Rattle.settings_tree.specs.Content.{IsContent}
use Rattle.settings_tree.specs.Pending.{IsPending}
use Rattle.settings_tree.specs.declared.held.Held.{Held}
use Rattle.fs_datastore.specs.Places.{path_of, is_place, format_path, IsNamed}
use Rattle.fs_datastore.specs.Values.{Value, value_in, Spells}

-- What is at the path of a place; a place that is outside its form has no path.
abbrev pub node_of : Files → Place → Option Node
node_of files place = if is_place place then files (path_of place) else None

-- The node is a file of the value, or there is neither.
abbrev pub IsFileOf : Option Value → Option Node → Type 0
IsFileOf None node = node ≡ None
IsFileOf (Some value) node = (bytes : List ℕ) × (node ≡ Some (file bytes)) × Spells bytes value

-- The file that tells format 2 has the one byte `2`.
abbrev pub format_node : Bool → Option Node
format_node told = if told then Some (file (codes "2")) else None

-- The files below the directory are those of these values, place by place, with a format told or not, and there are no others.
pub record Shows (files : Files) (what : Place → Option Value) (told : Bool) : Type 0 where
  pub named : (name : List ℕ) (rest : Names) → IsSome (files (name ∷ rest)) → IsNamed (name ∷ rest)
  pub places : (place : Place) → IsFileOf (what place) (node_of files place)
  pub format : files format_path ≡ format_node told

-- The file `weak` lists the weak keys; it may be missing where no file tells the format, and none is weak then.
abbrev pub IsListed : Bool → Option (List (List (List ℕ))) → List (List (List ℕ)) → Type 0
IsListed told listed weak = MatchOption listed ((told ≡ false) × (weak ≡ [])) (λ keys. weak ≡ keys)

-- The files below a data directory represent what is held, in this format.
pub record Stands (files : Files) (held : Held) (format : ℕ) : Type 0 where
  pub told : Bool
  pub listed : Option (List (List (List ℕ)))
  pub shows : Shows files (value_in held listed) told
  -- Where no file tells the format it is 1.
  pub format_is : format ≡ (if told then 2 else 1)
  pub weak_is : IsListed told listed held.live.weak
  -- What is held keeps its rules: the prefix rule, and weak keys that have a value and begin with `settings`.
  pub content : IsContent held.live
  pub pending : IsPending held.pending
