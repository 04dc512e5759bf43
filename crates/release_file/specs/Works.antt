-- What the table of a migration spells, by its kind.
use Rattle.std.specs.Prelude.{◌≡◌, ℕ, List, [], ◌∷◌, Option, Some, None, codes, map, string_bytes, IsTrue}
use Rattle.migrate_helpers.specs.declared.migration.Migration.TheVariants.{AddSettings, AddPrefixes, RemoveSettings, ReplaceString, RenameSettings}
use Rattle.migrate_helpers.specs.declared.migration.Migration.TheVariants.{AddMetadata, RemoveMetadata, ReplaceMetadata, RemoveWeak, NoOp}
use Rattle.toml.specs.Data.{Data, as_table, Members}
use Rattle.release_file.specs.Fields.{text_at, texts_at, scalar_at, HasKey, HasKeys, HasWords, has_only}
use Rattle.release_file.specs.declared.kind.Kind.{Kind}
use Rattle.release_file.specs.declared.kind.Kind.TheVariants as kind
use Rattle.release_file.specs.declared.work.Work.{Work}
use Rattle.release_file.specs.declared.work.Work.TheVariants.{Plain, Program}

-- The word of each kind.
abbrev pub word_of : Kind → List ℕ
word_of kind.AddSettings = codes "add-settings"
word_of kind.AddPrefixes = codes "add-prefixes"
word_of kind.RemoveSettings = codes "remove-settings"
word_of kind.ReplaceString = codes "replace-string"
word_of kind.RenameSettings = codes "rename-settings"
word_of kind.AddMetadata = codes "add-metadata"
word_of kind.RemoveMetadata = codes "remove-metadata"
word_of kind.ReplaceMetadata = codes "replace-metadata"
word_of kind.RemoveWeak = codes "remove-weak"
word_of kind.NoOp = codes "no-op"
word_of kind.Program = codes "program"

-- The names of the fields of each kind.
abbrev pub field_names : Kind → List (List ℕ)
field_names kind.AddSettings = codes "kind" ∷ codes "settings" ∷ []
field_names kind.AddPrefixes = codes "kind" ∷ codes "prefixes" ∷ []
field_names kind.RemoveSettings = codes "kind" ∷ codes "settings" ∷ []
field_names kind.ReplaceString = codes "kind" ∷ codes "setting" ∷ codes "old" ∷ codes "new" ∷ []
field_names kind.RenameSettings = codes "kind" ∷ codes "old" ∷ codes "new" ∷ []
field_names kind.AddMetadata = codes "kind" ∷ codes "key" ∷ codes "names" ∷ []
field_names kind.RemoveMetadata = codes "kind" ∷ codes "key" ∷ codes "names" ∷ []
field_names kind.ReplaceMetadata = codes "kind" ∷ codes "key" ∷ codes "name" ∷ codes "old" ∷ codes "new" ∷ []
field_names kind.RemoveWeak = codes "kind" ∷ []
field_names kind.NoOp = codes "kind" ∷ []
field_names kind.Program = codes "kind" ∷ codes "words" ∷ []

-- The kind of a work.
abbrev pub kind_of : Work → Kind
kind_of (Plain (AddSettings settings)) = kind.AddSettings
kind_of (Plain (AddPrefixes prefixes)) = kind.AddPrefixes
kind_of (Plain (RemoveSettings settings)) = kind.RemoveSettings
kind_of (Plain (ReplaceString setting old new)) = kind.ReplaceString
kind_of (Plain (RenameSettings pairs)) = kind.RenameSettings
kind_of (Plain (AddMetadata key names)) = kind.AddMetadata
kind_of (Plain (RemoveMetadata key names)) = kind.RemoveMetadata
kind_of (Plain (ReplaceMetadata key name old new)) = kind.ReplaceMetadata
kind_of (Plain RemoveWeak) = kind.RemoveWeak
kind_of (Plain NoOp) = kind.NoOp
kind_of (Program words) = kind.Program

-- The fields are those of this work.
abbrev pub HasFields : Members → Work → Type 0
HasFields ms (Plain (AddSettings settings)) = HasKeys 2 (codes "settings") ms settings.items
HasFields ms (Plain (AddPrefixes prefixes)) = HasKeys 1 (codes "prefixes") ms prefixes.items
HasFields ms (Plain (RemoveSettings settings)) = HasKeys 2 (codes "settings") ms settings.items
HasFields ms (Plain (ReplaceString setting old new)) = HasKey 2 (codes "setting") ms setting × (text_at (codes "old") ms ≡ Some old)
    × (text_at (codes "new") ms ≡ Some new)
HasFields ms (Plain (RenameSettings pairs)) = HasKeys 2 (codes "old") ms (map (λ pair. pair.0) pairs.items)
    × HasKeys 2 (codes "new") ms (map (λ pair. pair.1) pairs.items)
HasFields ms (Plain (AddMetadata key names)) = HasKey 1 (codes "key") ms key × (texts_at (codes "names") ms ≡ Some names.items)
HasFields ms (Plain (RemoveMetadata key names)) = HasKey 1 (codes "key") ms key × (texts_at (codes "names") ms ≡ Some names.items)
HasFields ms (Plain (ReplaceMetadata key name old new)) =
    HasKey 1 (codes "key") ms key × (text_at (codes "name") ms ≡ Some name) × (scalar_at (codes "old") ms ≡ Some old) × (scalar_at (codes "new") ms ≡ Some new)
HasFields ms (Plain RemoveWeak) = Unit {0}
HasFields ms (Plain NoOp) = Unit {0}
HasFields ms (Program words) = HasWords (codes "words") ms (map string_bytes words.items)

-- The table has the word of the work's kind, no other fields than those of its kind, and these as they are to be.
pub record IsTableOf (ms : Members) (work : Work) : Type 0 where
  pub word : text_at (codes "kind") ms ≡ Some (word_of (kind_of work))
  pub only : IsTrue (has_only (field_names (kind_of work)) ms)
  pub fields : HasFields ms work

-- The same of a table that may be none.
abbrev pub IsWorkOf : Option Members → Work → Type 0
IsWorkOf None work = ⊥
IsWorkOf (Some ms) work = IsTableOf ms work

-- The value spells this work: it is the table of it.
abbrev pub SpellsWork : Data → Work → Type 0
SpellsWork value work = IsWorkOf (as_table value) work

-- For private clauses: no work of the kind has these fields.
abbrev pub HasNoWork : Kind → Members → Type 0
HasNoWork k ms = (work : Work) → kind_of work ≡ k → HasFields ms work → ⊥

-- For private clauses: the work is of the kind, and these are its fields.
pub record IsOfKind (k : Kind) (ms : Members) (work : Work) : Type 0 where
  pub kind_is : kind_of work ≡ k
  pub fields : HasFields ms work
