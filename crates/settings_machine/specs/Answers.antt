-- What the requests that change nothing are answered.
use Rattle.std.specs.Prelude.{ℕ, Bool, ◌&&◌, List, [], ◌∷◌, Option, Some, None, filter, map, is_some, nat_lt, if◌then◌else◌}
use Rattle.std.specs.List.{list_any}
use Rattle.std.specs.FinMap.{get, entries, keys, from_entries}
use Rattle.key_names.specs.Order.{key_cmp}
use Rattle.key_names.specs.Key.{is_prefix}
use Rattle.json_trees.specs.declared.scalar.Scalar.{Scalar}
use Rattle.settings_tree.specs.Content.{settings_key}
use Rattle.settings_tree.specs.Walks.{entries_below}
use Rattle.metadata_links.specs.Nearest.{near, near_len}
use Rattle.settings_machine.specs.World.{Key, Image}
use Rattle.settings_machine.specs.Opening.{Values}
use Rattle.settings_machine.specs.Requests.{Body, TreeOf, Reply, Said, Refused}
use Rattle.settings_machine.specs.declared.refusal.Refusal.{Refusal}
use Rattle.settings_machine.specs.declared.refusal.Refusal.TheVariants.{NoKey, NoName}

-- A refusal where one is given, else the body.
abbrev pub said_unless : Option Refusal → Body → Reply
said_unless None body = Said body
said_unless (Some refusal) body = Refused refusal

-- ---- settings

-- The live settings, by key.
abbrev pub settings_of : Values → List (Key × Scalar)
settings_of values = entries_below values settings_key

-- Those whose keys pass a test.
abbrev pub settings_where : (Key → Bool) → Values → List (Key × Scalar)
settings_where test values = filter (λ e. test e.0) (settings_of values)

-- Whether there is a live setting at the key.
abbrev pub is_live_setting : Values → Key → Bool
is_live_setting values key = is_prefix settings_key key && is_some (get values key)

-- The first of the keys at which there is no live setting.
abbrev pub missing_key : Values → List Key → Option Refusal
missing_key values [] = None
missing_key values (key ∷ keys) = if is_live_setting values key then missing_key values keys else Some (NoKey key)

-- ---- services and configuration files

-- Whether there is a value below a first name and a name.
abbrev pub is_named : Values → List ℕ → List ℕ → Bool
is_named values first name = list_any (λ e. is_prefix (first ∷ name ∷ []) e.0) (entries values)

-- The first of the names below which there is no value.
abbrev pub missing_name : Values → List ℕ → List (List ℕ) → Option Refusal
missing_name values first [] = None
missing_name values first (name ∷ names) = if is_named values first name then missing_name values first names else Some (NoName name)

-- Whether the key is below a first name and one of the names.
abbrev pub is_below_one : List ℕ → List (List ℕ) → Key → Bool
is_below_one first names key = list_any (λ name. is_prefix (first ∷ name ∷ []) key) names

-- All that is below a first name, or what is below one of the names there.
abbrev pub below_names : Values → List ℕ → Option (List (List ℕ)) → Reply
below_names values first None = Said (TreeOf 1 (entries_below values (first ∷ [])))
below_names values first (Some names) =
    said_unless (missing_name values first names) (TreeOf 1 (filter (λ e. is_below_one first names e.0) (entries_below values (first ∷ []))))

-- ---- metadata

-- The keys of a list, each with nothing.
abbrev pub marked : List Key → List (Key × Unit {0})
marked list = map (λ key. (key, tt)) list

-- The keys of a list, each once, rising.
abbrev pub rising_keys : List Key → List Key
rising_keys list = keys (from_entries {R = key_cmp} (marked list))

-- The keys of a list that have a nearest list of services, each with it, rising.
abbrev pub nearest_lists : Image → List Key → List (Key × List (List ℕ))
nearest_lists I list = map (λ key. (key, near I.manifest.index key)) (filter (λ key. nat_lt 0 (near_len I.manifest.index key)) (rising_keys list))
