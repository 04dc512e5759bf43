-- Type words and their texts. The byte 32 is a space, 124 a bar.
use Rattle.std.specs.Prelude.{◌≡◌, ◌≤ℤ◌, ℕ, ℤ, Bool, IsTrue, List, ◌∷◌, ◌++◌, length, codes, ⊤}
use Rattle.std.specs.Prelude.{◌≢◌, ◌<◌, AllPairs, true, false}
use Rattle.std.specs.Prelude.{FitsSigned}
use Rattle.std.specs.Int.{w64}
use Rattle.std.specs.List.{list_all, join_with_byte}
use Rattle.std.specs.Fmt.{signed_decimal}
use Rattle.settings_maps.specs.TxName.{is_meta_name}
use Rattle.typed_settings.specs.declared.item_word.ItemWord.{ItemWord}
use Rattle.typed_settings.specs.declared.item_word.ItemWord.TheVariants as item
use Rattle.typed_settings.specs.declared.word.Word.{Word}
use Rattle.typed_settings.specs.declared.word.Word.TheVariants as word

-- An identifier is of the form of a metadata name: 1 to 127 bare characters.
abbrev pub is_identifier : List ℕ → Bool
is_identifier text = is_meta_name text

-- Two bounds, each as it is printed, with a space between them.
abbrev pub bounds_text : ℤ → ℤ → List ℕ
bounds_text low high = signed_decimal low ++ (32 ∷ signed_decimal high)

-- The text of a word that is no list.
abbrev pub item_text : ItemWord → List ℕ
item_text item.Bool = codes "bool"
item_text (item.Int low high) = codes "int " ++ bounds_text low high
item_text item.Text = codes "text"
item_text item.Line = codes "line"
item_text item.Identifier = codes "identifier"
item_text item.Base64 = codes "base64"
item_text item.Version = codes "version"
item_text (item.Choice names) = codes "choice " ++ join_with_byte 124 names

-- The text of a word.
abbrev pub word_text : Word → List ℕ
word_text (word.One w) = item_text w
word_text (word.List w) = codes "list " ++ item_text w

-- Both bounds are held by an i64, and the first is at most the second.
pub record AreBounds (low high : ℤ) : Type 0 where
  pub low_fits : FitsSigned w64 low
  pub high_fits : FitsSigned w64 high
  pub ordered : low ≤ℤ high

-- One or more names are offered, each an identifier, and all are different.
pub record AreChoices (names : List (List ℕ)) : Type 0 where
  pub some : 0 < length names
  pub valid : IsTrue (list_all is_identifier names)
  pub different : AllPairs (λ name other. name ≢ other) names

-- The text is that of the two bounds.
pub record SpellsBounds (text : List ℕ) (low high : ℤ) : Type 0 where
  pub valid : AreBounds low high
  pub spelled : text ≡ bounds_text low high

-- The text is that of the names, with bars between them.
pub record SpellsChoices (text : List ℕ) (names : List (List ℕ)) : Type 0 where
  pub valid : AreChoices names
  pub spelled : text ≡ join_with_byte 124 names

-- The parts of a word are as they must be.
abbrev pub IsItemWord : ItemWord → Type 0
IsItemWord item.Bool = ⊤
IsItemWord (item.Int low high) = AreBounds low high
IsItemWord item.Text = ⊤
IsItemWord item.Line = ⊤
IsItemWord item.Identifier = ⊤
IsItemWord item.Base64 = ⊤
IsItemWord item.Version = ⊤
IsItemWord (item.Choice names) = AreChoices names

-- The same of a word that may be a list.
abbrev pub IsWord : Word → Type 0
IsWord (word.One w) = IsItemWord w
IsWord (word.List w) = IsItemWord w

-- The text spells this word, which is no list.
pub record SpellsItemWord (text : List ℕ) (w : ItemWord) : Type 0 where
  pub valid : IsItemWord w
  pub spelled : text ≡ item_text w

-- The text spells this word.
pub record SpellsWord (text : List ℕ) (w : Word) : Type 0 where
  pub valid : IsWord w
  pub spelled : text ≡ word_text w

-- ---- for private clauses

-- The word has parts after its name.
abbrev pub has_parts : ItemWord → Bool
has_parts (item.Int low high) = true
has_parts (item.Choice names) = true
has_parts _ = false
