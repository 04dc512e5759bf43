-- The rows of a type table, and what they say of keys.
use Rattle.std.specs.Prelude.{◌≡◌, ◌<◌, ◌≤◌, ℕ, IsTrue, false, List, [], ◌∷◌, ◌++◌}
use Rattle.std.specs.Prelude.{length, take, codes, slice_index_or, slice_get, Some, Contains, IsPermutation, AllPairs}
use Rattle.std.specs.List.{AllZip}
use Rattle.json_trees.specs.declared.scalar.Scalar.{Scalar}
use Rattle.typed_settings.specs.Word.{SpellsWord}
use Rattle.typed_settings.specs.Takes.{takes}
use Rattle.typed_settings.specs.Pattern.{SpellsPattern, Matches, Reaches, Meet}
use Rattle.typed_settings.specs.declared.item_word.ItemWord.TheVariants.{Identifier, Text}
use Rattle.typed_settings.specs.declared.word.Word.{Word}
use Rattle.typed_settings.specs.declared.word.Word.TheVariants as word
use Rattle.typed_settings.specs.declared.place.Place.{Place}
use Rattle.typed_settings.specs.declared.place.Place.TheVariants as place
use Rattle.typed_settings.specs.declared.row.Row.{Row}

-- The pattern of a row that is given begins with `settings` and has at least two places.
pub record IsOfSettings (pattern : List Place) : Type 0 where
  pub first : slice_get pattern 0 ≡ Some (place.Plain (codes "settings"))
  pub long : 2 ≤ length pattern

-- The two texts, of a pattern and of a word, spell this row.
pub record SpellsRow (texts : List ℕ × List ℕ) (row : Row) : Type 0 where
  pub pattern : SpellsPattern texts.0 row.pattern
  pub of_settings : IsOfSettings row.pattern
  pub word : SpellsWord texts.1 row.word
  pub text : row.text ≡ texts.1

-- ---- the table

-- A row with this pattern, word, and text of the word.
abbrev pub row_with : List Place → Word → List ℕ → Row
row_with pattern w text = record { pattern = pattern; word = w; text = text }

-- The four rows that are built in.
abbrev pub built_in : List Row
built_in =
    row_with (place.Plain (codes "services") ∷ place.Any ∷ place.Plain (codes "configuration-files") ∷ []) (word.List Identifier) (codes "list identifier") ∷
    row_with (place.Plain (codes "services") ∷ place.Any ∷ place.Plain (codes "restart-commands") ∷ []) (word.List Text) (codes "list text") ∷
    row_with (place.Plain (codes "configuration-files") ∷ place.Any ∷ place.Plain (codes "path") ∷ []) (word.One Text) (codes "text") ∷
    row_with (place.Plain (codes "configuration-files") ∷ place.Any ∷ place.Plain (codes "template-path") ∷ []) (word.One Text) (codes "text") ∷ []

-- No two rows meet.
abbrev pub AreApart : List Row → Type 0
AreApart rows = AllPairs (λ a b. Meet a.pattern b.pattern → ⊥) rows

-- The texts spell these rows, one each.
abbrev pub AreSpelled : List (List ℕ × List ℕ) → List Row → Type 0
AreSpelled = AllZip SpellsRow

-- The table has the rows that are built in and those that the texts spell, of which no two meet.
pub record IsTableOf (texts : List (List ℕ × List ℕ)) (table : List Row) : Type 0 where
  pub given : List Row
  pub spelled : AreSpelled texts given
  pub apart : AreApart given
  pub rows : IsPermutation (built_in ++ given) table

-- The texts at this index spell no row, and all before do.
pub record IsFirstBad (texts : List (List ℕ × List ℕ)) (index : ℕ) : Type 0 where
  pub within : index < length texts
  pub before : List Row
  pub spelled : AreSpelled (take index texts) before
  pub bad : (row : Row) → SpellsRow (slice_index_or texts index ([], [])) row → ⊥

-- The row at this index is the first that meets the pattern.
pub record IsFirstMeeting (rows : List Row) (pattern : List Place) (first : ℕ) : Type 0 where
  pub within : first < length rows
  pub meet : (d : Row) → Meet (slice_index_or rows first d).pattern pattern
  pub least : (i : ℕ) (d : Row) → i < first → Meet (slice_index_or rows i d).pattern pattern → ⊥

-- The two rows meet, no two rows before the second do, and no row before the first meets the second.
pub record IsLeastPair (rows : List Row) (first second : ℕ) : Type 0 where
  pub ordered : first < second
  pub within : second < length rows
  pub meet : (d : Row) → Meet (slice_index_or rows first d).pattern (slice_index_or rows second d).pattern
  pub least_second : AreApart (take second rows)
  pub least_first : (i : ℕ) (d : Row) → i < first → Meet (slice_index_or rows i d).pattern (slice_index_or rows second d).pattern → ⊥

-- The texts spell rows, of which these are the least pair that meets.
pub record IsLeastMeeting (texts : List (List ℕ × List ℕ)) (first second : ℕ) : Type 0 where
  pub given : List Row
  pub spelled : AreSpelled texts given
  pub least : IsLeastPair given first second

-- ---- keys and values

-- The table has this row, and it matches the key.
pub record HasRow (table : List Row) (key : List (List ℕ)) (row : Row) : Type 0 where
  pub among : Contains table row
  pub matches : Matches row.pattern key

-- Some row of the table matches the key.
abbrev pub IsKnown : List Row → List (List ℕ) → Type 0
IsKnown table key = (row : Row) × HasRow table key row

-- Some row of the table matches the key, and its word takes the value.
pub record IsTyped (table : List Row) (key : List (List ℕ)) (value : Scalar) : Type 0 where
  pub row : Row
  pub has : HasRow table key row
  pub taken : IsTrue (takes row.word value)

-- Some row of the table matches the key, its word has this text and refuses the value.
pub record IsRefusedFor (table : List Row) (key : List (List ℕ)) (value : Scalar) (wanted : List ℕ) : Type 0 where
  pub row : Row
  pub has : HasRow table key row
  pub refused : takes row.word value ≡ false
  pub wanted_is : wanted ≡ row.text

-- Some row of the table reaches the path.
pub record IsReached (table : List Row) (path : List (List ℕ)) : Type 0 where
  pub row : Row
  pub among : Contains table row
  pub reaches : Reaches row.pattern path

-- ---- what follows where no two rows meet

-- One row at most matches the key.
pub record HasOneRow (table : List Row) (key : List (List ℕ)) : Type 0 where
  pub one : (i j : ℕ) (d : Row) → i < length table → j < length table → Matches (slice_index_or table i d).pattern key
      → Matches (slice_index_or table j d).pattern key → i ≡ j

-- No known key is a proper prefix of another.
pub record IsPrefixFree (table : List Row) : Type 0 where
  pub free : (key more : List (List ℕ)) → IsKnown table key → IsKnown table (key ++ more) → more ≡ []
