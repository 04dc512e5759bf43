-- Where a data directory has the file of each place of what is held.
use Rattle.std.specs.Prelude.{◌≡◌, ◌⊎◌, ℕ, List, [], ◌∷◌, ◌++◌, map, codes, Bool, true, ◌&&◌, IsTrue}
use Rattle.outside.specs.Names.{Names}
use Rattle.key_names.specs.Key.{is_key}
use Rattle.key_names.specs.Segment.{file_name}
use Rattle.settings_maps.specs.TxName.{is_tx_name, is_meta_name}
use Rattle.settings_tree.specs.Change.{Place}
use Rattle.settings_tree.specs.Change.{Live, Meta, Pend, TheOwed, TheImage, TheWeak}

-- A key's names are the file names of its segments.
abbrev pub names_of : List (List ℕ) → Names
names_of key = map file_name key

-- Metadata has its key's names, of which the last goes on with a dot and the metadata's name.
abbrev pub meta_names : List (List ℕ) → List ℕ → Names
meta_names [] name = []
meta_names (segment ∷ []) name = (file_name segment ++ 46 ∷ name) ∷ []
meta_names (segment ∷ following ∷ key) name = file_name segment ∷ meta_names (following ∷ key) name

-- The path of a place, below the directory.
abbrev pub path_of : Place → Names
path_of (Live key) = codes "live" ∷ names_of key
path_of (Meta key name) = codes "live" ∷ meta_names key name
path_of (Pend tx key) = codes "pending" ∷ tx ∷ names_of key
path_of TheOwed = codes "owed" ∷ []
path_of TheImage = codes "image" ∷ []
path_of TheWeak = codes "weak" ∷ []

-- Keys and names in the place are within their forms.
abbrev pub is_place : Place → Bool
is_place (Live key) = is_key key
is_place (Meta key name) = is_key key && is_meta_name name
is_place (Pend tx key) = is_tx_name tx && is_key key
is_place TheOwed = true
is_place TheImage = true
is_place TheWeak = true

-- The path of the file that tells the format.
abbrev pub format_path : Names
format_path = codes "format" ∷ []

-- The path is that of the format, or of a place.
abbrev pub IsNamed : Names → Type 0
IsNamed path = (path ≡ format_path) ⊎ ((place : Place) × IsTrue (is_place place) × (path ≡ path_of place))
