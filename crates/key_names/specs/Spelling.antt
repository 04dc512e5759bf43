-- What texts spell keys, said of whole texts. The byte 46 is a dot.
use Rattle.std.specs.Prelude.{◌≡◌, ◌⊎◌, ℕ, IsTrue, List}
use Rattle.std.specs.List.{list_all}
use Rattle.key_names.specs.Segment.{is_bare, is_segment, quoted}
use Rattle.key_names.specs.Key.{fits}
use Rattle.key_names.specs.Joined.{Joins}

-- A segment is spelled in quotes, or bare where it has only bare characters.
pub record IsSpelling (spelling segment : List ℕ) : Type 0 where
  pub valid : IsTrue (is_segment segment)
  pub form : (spelling ≡ quoted segment) ⊎ ((spelling ≡ segment) × IsTrue (list_all is_bare segment))

-- The text is made of a spelling of each segment, joined by dots.
abbrev pub Spells : List ℕ → List (List ℕ) → Type 0
Spells = Joins IsSpelling 46

-- The text spells the key, which is within the limits.
pub record SpellsKey (text : List ℕ) (key : List (List ℕ)) : Type 0 where
  pub spells : Spells text key
  pub within : IsTrue (fits key)
