-- The order of patterns by which a table is searched.
use Rattle.std.specs.Prelude.{◌≡◌, ℕ, Bool, true, false, Option, Some, None, List, [], ◌∷◌, map, AllPairs}
use Rattle.std.specs.declared.cmp.Ordering.{Ordering}
use Rattle.std.specs.declared.cmp.Ordering.TheVariants.{Less, Equal}
use Rattle.std.specs.Ordering.{is_eq, is_lt, ordering_then}
use Rattle.key_names.specs.Order.{bytes_cmp, key_cmp}
use Rattle.typed_settings.specs.declared.place.Place.{Place}
use Rattle.typed_settings.specs.declared.place.Place.TheVariants.{Any, Plain}
use Rattle.typed_settings.specs.declared.row.Row.{Row}
use Rattle.typed_settings.specs.Row.{AreApart}

-- A bare `*` comes before a segment.
abbrev pub rank : Place → ℕ
rank Any = 0
rank (Plain segment) = 1

-- Where a pattern has bare `*`s and where segments.
abbrev pub shape : List Place → List ℕ
shape pattern = map rank pattern

-- The bytes of a segment, and none of a bare `*`.
abbrev pub cell : Place → List ℕ
cell Any = []
cell (Plain segment) = segment

-- The bytes of each place.
abbrev pub cells : List Place → List (List ℕ)
cells pattern = map cell pattern

-- The shape, and then the bytes of each place.
abbrev pub signature : List Place → List (List ℕ)
signature pattern = shape pattern ∷ cells pattern

-- Patterns are ordered by their shapes, and those of one shape by their segments.
abbrev pub pattern_cmp : List Place → List Place → Ordering
pattern_cmp one other = key_cmp (signature one) (signature other)

-- Both patterns have one shape, as neither comes before the other.
abbrev pub is_like : List Place → List Place → Bool
is_like one other = is_eq (bytes_cmp (shape one) (shape other))

-- How a place compares to a segment: a bare `*` fits it.
abbrev pub place_to : Place → List ℕ → Ordering
place_to Any segment = Equal
place_to (Plain own) segment = bytes_cmp own segment

-- How a pattern compares to a key: the first place that doesn't fit its segment decides.
abbrev pub order_to : List Place → List (List ℕ) → Ordering
order_to [] key = Equal
order_to (x ∷ places) [] = Equal
order_to (x ∷ places) (segment ∷ key) = ordering_then (place_to x segment) (order_to places key)

-- Two segments by their bytes, and two bare `*`s, which are the same; nothing of a bare `*` and a segment.
abbrev pub plain_cmp : Place → Place → Option Ordering
plain_cmp Any Any = Some Equal
plain_cmp (Plain a) (Plain b) = Some (bytes_cmp a b)
plain_cmp _ _ = None

-- What a first place tells, and what the others do where it ties.
abbrev pub before_then : Option Ordering → Bool → Bool
before_then (Some Less) others = true
before_then (Some Equal) others = others
before_then _ others = false

-- The first place at which the patterns differ has two segments, of which the first pattern's comes first.
abbrev pub is_plainly_before : List Place → List Place → Bool
is_plainly_before (x ∷ one) (y ∷ other) = before_then (plain_cmp x y) (is_plainly_before one other)
is_plainly_before _ other = false

-- The rows ascend by their patterns.
abbrev pub AreOrdered : List Row → Type 0
AreOrdered rows = AllPairs (λ a b. is_lt (pattern_cmp b.pattern a.pattern) ≡ false) rows

-- All rows have one shape.
abbrev pub AreAlike : List Row → Type 0
AreAlike rows = AllPairs (λ a b. shape a.pattern ≡ shape b.pattern) rows

-- The rows of a table: no two meet, and they ascend.
pub record IsTable (rows : List Row) : Type 0 where
  pub apart : AreApart rows
  pub ordered : AreOrdered rows
