-- What changes words say, and the body of a request that asks for them.
use Rattle.std.specs.Prelude.{◌≡◌, ◌≢◌, ◌&&◌, ℕ, Bool, true, not, nat_lt, List, [], ◌∷◌, length, codes, Ok, slice_index_or}
use Rattle.std.specs.List.{list_all, list_any}
use Rattle.std.specs.List.Sorted.{IsPermutation}
use Rattle.std.specs.Str.{bytes_eq, IsUtf8}
use Rattle.key_names.specs.Key.{overlaps}
use Rattle.json_trees.specs.Nested.{NestsAs}
use Rattle.json_trees.specs.Tree.{Path, pending_leaf, pending_data, flattened}
use Rattle.json_trees.specs.declared.pending.Pending.{Pending}
use Rattle.json_trees.specs.declared.pending.Pending.TheVariants.{Put, Gone}
use Rattle.json_trees.specs.declared.scalar.Scalar.{Scalar}
use Rattle.json_trees.specs.declared.scalar.Scalar.TheVariants as scalar
use Rattle.command_words.specs.Values.{SplitsInto, SpellsSetting, SpellsPair, Each}
use Rattle.change_words.specs.declared.form.Form.{Form}
use Rattle.change_words.specs.declared.form.Form.TheVariants.{Values, Texts, Removals}

-- ---- words

-- A key, and its value or that it has none.
abbrev pub Change : Type 0
Change = Path × Pending

-- KEY=JSON, as `settings set` reads it: the key gets the scalar that the JSON is.
pub record SpellsValue (word : List ℕ) (change : Change) : Type 0 where
  pub value : Scalar
  pub pair : SpellsPair word (change.0, value)
  pub put : change.1 ≡ Put value

-- KEY=TEXT, where the text is UTF-8: the key gets the text.
pub record SpellsText (word : List ℕ) (change : Change) : Type 0 where
  pub key : List ℕ
  pub text : List ℕ
  pub splits : SplitsInto word key text
  pub setting : SpellsSetting key change.0
  pub utf8 : IsUtf8 text
  pub put : change.1 ≡ Put (scalar.Text text)

-- KEY: it is to have no value.
pub record SpellsRemoval (word : List ℕ) (change : Change) : Type 0 where
  pub setting : SpellsSetting word change.0
  pub gone : change.1 ≡ Gone

-- The word says this change in this form.
abbrev pub spells : Form → List ℕ → Change → Type 0
spells Values word change = SpellsValue word change
spells Texts word change = SpellsText word change
spells Removals word change = SpellsRemoval word change

-- ---- trees

-- The key begins with `settings` and goes on.
abbrev pub is_setting : Path → Bool
is_setting key = nat_lt 1 (length key) && bytes_eq (slice_index_or key 0 []) (codes "settings")

abbrev pub are_settings : List Change → Bool
are_settings changes = list_all (λ change. is_setting change.0) changes

-- The key is a prefix of one of theirs, or one of theirs of it.
abbrev pub overlaps_any : Path → List Change → Bool
overlaps_any key others = list_any (λ other. overlaps key other.0) others

-- No key is a prefix of another.
abbrev pub are_separate : List Change → Bool
are_separate [] = true
are_separate (change ∷ changes) = not (overlaps_any change.0 changes) && are_separate changes

-- They make a tree below `settings`.
abbrev pub is_tree : List Change → Bool
is_tree changes = are_settings changes && are_separate changes

-- ---- bodies

-- The body is the compact JSON of the tree that the changes are, in any order, below `settings`; as a patch it reads back as them.
pub record IsBody (changes : List Change) (body : List ℕ) : Type 0 where
  pub rising : List Change
  pub same : IsPermutation changes rising
  pub nests : NestsAs pending_data 1 rising body
  pub reads_back : flattened pending_leaf (codes "settings" ∷ []) body ≡ Ok rising

-- The words, one or more, say changes that make a tree, and this is the body for them.
pub record Says (form : Form) (words : List (List ℕ)) (body : List ℕ) : Type 0 where
  pub some : words ≢ []
  pub changes : List Change
  pub each : Each (spells form) words changes
  pub tree : is_tree changes ≡ true
  pub is_body : IsBody changes body
