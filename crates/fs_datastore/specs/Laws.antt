-- Laws of places, and of what files represent.
use Rattle.std.specs.Prelude.{◌≡◌, ◌≢◌, ℕ, List, ◌∷◌, None, IsTrue}
use Rattle.outside.specs.Names.{Names}
use Rattle.commit_journal.specs.Files.{Files}
use Rattle.commit_journal.specs.Stands.{journal}
use Rattle.settings_tree.specs.Change.{Place}
use Rattle.settings_tree.specs.declared.held.Held.{Held}
use Rattle.fs_datastore.specs.Places.{path_of, is_place, format_path}
use Rattle.fs_datastore.specs.Stands.{Stands}
use Rattle.fs_datastore.specs.Damage.{IsFault}

-- A path is that of at most one place.
abbrev pub NamesOne : Type 0
NamesOne = (one other : Place) → IsTrue (is_place one) → IsTrue (is_place other) → path_of one ≡ path_of other → one ≡ other

-- No place has the path of the format.
abbrev pub NamesNoFormat : Type 0
NamesNoFormat = (place : Place) → path_of place ≢ format_path

-- Files represent at most one choice of what is held.
abbrev pub StandsForOne : Type 0
StandsForOne = (files : Files) (one other : Held) (format : ℕ) (also : ℕ) → Stands files one format → Stands files other also → (one ≡ other) × (format ≡ also)

-- Files that represent something have no fault.
abbrev pub StandsFaultless : Type 0
StandsFaultless = (files : Files) (held : Held) (format : ℕ) (path : Names) → Stands files held format → IsFault files path → ⊥

-- Files have at most one fault.
abbrev pub HasOneFault : Type 0
HasOneFault = (files : Files) (one other : Names) → IsFault files one → IsFault files other → one ≡ other

-- The two have the same at each path of names.
abbrev pub AreAlike : Files → Files → Type 0
AreAlike one other = (name : List ℕ) (rest : Names) → one (name ∷ rest) ≡ other (name ∷ rest)

-- Files that are alike represent the same.
abbrev pub StandAlike : Type 0
StandAlike = (one other : Files) (held : Held) (format : ℕ) → AreAlike one other → Stands one held format → Stands other held format

-- Files that represent something have no journal among them.
abbrev pub StandsWithoutJournal : Type 0
StandsWithoutJournal = (files : Files) (held : Held) (format : ℕ) → Stands files held format → files journal ≡ None
