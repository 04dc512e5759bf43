-- Patterns of keys. The byte 42 is `*`, 46 a dot.
use Rattle.std.specs.Prelude.{◌≡◌, ◌<◌, ◌≤◌, ℕ, ⊤, List, [], ◌∷◌, ◌++◌, length, map, slice_index_or}
use Rattle.std.specs.List.{join_with_byte}
use Rattle.key_names.specs.Segment.{printed_segment}
use Rattle.key_names.specs.Spelling.{SpellsKey}
use Rattle.key_names.specs.Joined.{Joins, Ends}
use Rattle.typed_settings.specs.declared.place.Place.{Place}
use Rattle.typed_settings.specs.declared.place.Place.TheVariants.{Any, Plain}

-- ---- spelling

-- A bare `*` spells any segment; a plain one is spelled as a key of this one segment is.
abbrev pub IsPlaceText : List ℕ → Place → Type 0
IsPlaceText text Any = text ≡ 42 ∷ []
IsPlaceText text (Plain segment) = SpellsKey text (segment ∷ [])

-- A place as it is printed: `*`, or its segment.
abbrev pub printed_place : Place → List ℕ
printed_place Any = 42 ∷ []
printed_place (Plain segment) = printed_segment segment

-- The printed places, joined by dots.
abbrev pub printed_pattern : List Place → List ℕ
printed_pattern places = join_with_byte 46 (map printed_place places)

-- The pattern is within the limits of keys.
pub record IsWithinLimits (pattern : List Place) : Type 0 where
  pub places : length pattern ≤ 32
  pub bytes : length (printed_pattern pattern) ≤ 1024

-- The text spells the pattern: a text of each place, joined by dots.
pub record SpellsPattern (text : List ℕ) (pattern : List Place) : Type 0 where
  pub spells : Joins IsPlaceText 46 text pattern
  pub limits : IsWithinLimits pattern

-- ---- matching

-- A bare `*` fits any segment, a plain place its own.
abbrev pub Fits : Place → List ℕ → Type 0
Fits Any segment = ⊤
Fits (Plain own) segment = own ≡ segment

-- The pattern is at least as long as the path, and its first places fit the path's segments.
pub record Reaches (pattern : List Place) (path : List (List ℕ)) : Type 0 where
  pub long : length path ≤ length pattern
  pub fits : (i : ℕ) → i < length path → Fits (slice_index_or pattern i Any) (slice_index_or path i [])

-- The pattern is as long as the key, and each place fits the key's segment there.
pub record Matches (pattern : List Place) (key : List (List ℕ)) : Type 0 where
  pub same_length : length key ≡ length pattern
  pub reaches : Reaches pattern key

-- Two places agree where they aren't plain segments that differ.
abbrev pub Agree : Place → Place → Type 0
Agree Any other = ⊤
Agree (Plain a) Any = ⊤
Agree (Plain a) (Plain b) = a ≡ b

-- Two patterns meet where no place exists at which both have plain segments that differ.
pub record Meet (one other : List Place) : Type 0 where
  pub agree : (i : ℕ) → Agree (slice_index_or one i Any) (slice_index_or other i Any)

-- ---- for private clauses

-- The place that a text begins with has this length, where a text of a place ends there.
pub record IsHeadLen (text : List ℕ) (len : ℕ) : Type 0 where
  pub within : len ≤ length text
  pub exact : (front back : List ℕ) (place : Place) → text ≡ front ++ back → IsPlaceText front place → Ends 46 back → len ≡ length front

-- The key has one segment, and the place is that segment.
pub record IsPlaceOf (key : List (List ℕ)) (place : Place) : Type 0 where
  pub segment : List ℕ
  pub one : key ≡ segment ∷ []
  pub plain : place ≡ Plain segment

-- After the places that are done, the text spells what the rest spells.
pub record Remains (text : List ℕ) (done : List Place) (rest : List ℕ) : Type 0 where
  pub sound : (places : List Place) → Joins IsPlaceText 46 rest places → Joins IsPlaceText 46 text (done ++ places)
  pub exact : (places : List Place) → Joins IsPlaceText 46 text places → (left : List Place) × (places ≡ done ++ left) × Joins IsPlaceText 46 rest left
