-- Tables that are those of no migration of a kind.
use Rattle.std.proofs.Common.{◌≡◌, ℕ, List, Some, codes, length, map, string_bytes, sym, ◌∙◌}
use Rattle.std.proofs.lemmas.List.{length-map}
use Rattle.json_trees.specs.declared.scalar.Scalar.{Scalar}
use Rattle.migrate_helpers.specs.declared.migration.Migration.TheVariants.{AddSettings, AddPrefixes, RemoveSettings, ReplaceString, RenameSettings}
use Rattle.migrate_helpers.specs.declared.migration.Migration.TheVariants.{AddMetadata, RemoveMetadata, ReplaceMetadata, RemoveWeak, NoOp}
use Rattle.toml.specs.Data.{Members}
use Rattle.release_file.specs.Fields.{text_at, texts_at, scalar_at, HasKey, HasKeys, HasWords}
use Rattle.release_file.specs.Works.{HasNoWork}
use Rattle.release_file.specs.declared.kind.Kind.TheVariants as kind
use Rattle.release_file.specs.declared.work.Work.TheVariants.{Plain, Program}

-- Without such keys no settings came.
pub no_added_settings : (ms : Members) → ((keys : List (List (List ℕ))) → HasKeys 2 (codes "settings") ms keys → ⊥) → HasNoWork kind.AddSettings ms
no_added_settings ms none (Plain (AddSettings settings)) is fields = none settings.items fields
no_added_settings ms none (Plain (AddPrefixes prefixes)) is fields = absurd (cc)
no_added_settings ms none (Plain (RemoveSettings settings)) is fields = absurd (cc)
no_added_settings ms none (Plain (ReplaceString setting old new)) is fields = absurd (cc)
no_added_settings ms none (Plain (RenameSettings pairs)) is fields = absurd (cc)
no_added_settings ms none (Plain (AddMetadata key names)) is fields = absurd (cc)
no_added_settings ms none (Plain (RemoveMetadata key names)) is fields = absurd (cc)
no_added_settings ms none (Plain (ReplaceMetadata key name old new)) is fields = absurd (cc)
no_added_settings ms none (Plain RemoveWeak) is fields = absurd (cc)
no_added_settings ms none (Plain NoOp) is fields = absurd (cc)
no_added_settings ms none (Program words) is fields = absurd (cc)

-- Without such keys no prefixes came.
pub no_added_prefixes : (ms : Members) → ((keys : List (List (List ℕ))) → HasKeys 1 (codes "prefixes") ms keys → ⊥) → HasNoWork kind.AddPrefixes ms
no_added_prefixes ms none (Plain (AddSettings settings)) is fields = absurd (cc)
no_added_prefixes ms none (Plain (AddPrefixes prefixes)) is fields = none prefixes.items fields
no_added_prefixes ms none (Plain (RemoveSettings settings)) is fields = absurd (cc)
no_added_prefixes ms none (Plain (ReplaceString setting old new)) is fields = absurd (cc)
no_added_prefixes ms none (Plain (RenameSettings pairs)) is fields = absurd (cc)
no_added_prefixes ms none (Plain (AddMetadata key names)) is fields = absurd (cc)
no_added_prefixes ms none (Plain (RemoveMetadata key names)) is fields = absurd (cc)
no_added_prefixes ms none (Plain (ReplaceMetadata key name old new)) is fields = absurd (cc)
no_added_prefixes ms none (Plain RemoveWeak) is fields = absurd (cc)
no_added_prefixes ms none (Plain NoOp) is fields = absurd (cc)
no_added_prefixes ms none (Program words) is fields = absurd (cc)

-- Without such keys no settings went.
pub no_removed_settings : (ms : Members) → ((keys : List (List (List ℕ))) → HasKeys 2 (codes "settings") ms keys → ⊥) → HasNoWork kind.RemoveSettings ms
no_removed_settings ms none (Plain (AddSettings settings)) is fields = absurd (cc)
no_removed_settings ms none (Plain (AddPrefixes prefixes)) is fields = absurd (cc)
no_removed_settings ms none (Plain (RemoveSettings settings)) is fields = none settings.items fields
no_removed_settings ms none (Plain (ReplaceString setting old new)) is fields = absurd (cc)
no_removed_settings ms none (Plain (RenameSettings pairs)) is fields = absurd (cc)
no_removed_settings ms none (Plain (AddMetadata key names)) is fields = absurd (cc)
no_removed_settings ms none (Plain (RemoveMetadata key names)) is fields = absurd (cc)
no_removed_settings ms none (Plain (ReplaceMetadata key name old new)) is fields = absurd (cc)
no_removed_settings ms none (Plain RemoveWeak) is fields = absurd (cc)
no_removed_settings ms none (Plain NoOp) is fields = absurd (cc)
no_removed_settings ms none (Program words) is fields = absurd (cc)

-- Without a key and two texts no text changed.
pub no_replaced_string : (ms : Members) → ((key : List (List ℕ)) (old new : List ℕ) → HasKey 2 (codes "setting") ms key → text_at (codes "old") ms ≡ Some old
    → text_at (codes "new") ms ≡ Some new → ⊥) → HasNoWork kind.ReplaceString ms
no_replaced_string ms none (Plain (AddSettings settings)) is fields = absurd (cc)
no_replaced_string ms none (Plain (AddPrefixes prefixes)) is fields = absurd (cc)
no_replaced_string ms none (Plain (RemoveSettings settings)) is fields = absurd (cc)
no_replaced_string ms none (Plain (ReplaceString setting old new)) is fields = none setting old new fields.0 fields.1 fields.2
no_replaced_string ms none (Plain (RenameSettings pairs)) is fields = absurd (cc)
no_replaced_string ms none (Plain (AddMetadata key names)) is fields = absurd (cc)
no_replaced_string ms none (Plain (RemoveMetadata key names)) is fields = absurd (cc)
no_replaced_string ms none (Plain (ReplaceMetadata key name old new)) is fields = absurd (cc)
no_replaced_string ms none (Plain RemoveWeak) is fields = absurd (cc)
no_replaced_string ms none (Plain NoOp) is fields = absurd (cc)
no_replaced_string ms none (Program words) is fields = absurd (cc)

-- Without keys in pairs no settings moved.
pub no_renamed_settings : (ms : Members) → ((old new : List (List (List ℕ))) → HasKeys 2 (codes "old") ms old → HasKeys 2 (codes "new") ms new
    → ◌≡◌ {A = ℕ} (length old) (length new) → ⊥) → HasNoWork kind.RenameSettings ms
no_renamed_settings ms none (Plain (AddSettings settings)) is fields = absurd (cc)
no_renamed_settings ms none (Plain (AddPrefixes prefixes)) is fields = absurd (cc)
no_renamed_settings ms none (Plain (RemoveSettings settings)) is fields = absurd (cc)
no_renamed_settings ms none (Plain (ReplaceString setting old new)) is fields = absurd (cc)
no_renamed_settings ms none (Plain (RenameSettings pairs)) is fields =
    none (map (λ pair. pair.0) pairs.items) (map (λ pair. pair.1) pairs.items) fields.0 fields.1
    (length-map pairs.items (λ pair. pair.0) ∙ sym (length-map pairs.items (λ pair. pair.1)))
no_renamed_settings ms none (Plain (AddMetadata key names)) is fields = absurd (cc)
no_renamed_settings ms none (Plain (RemoveMetadata key names)) is fields = absurd (cc)
no_renamed_settings ms none (Plain (ReplaceMetadata key name old new)) is fields = absurd (cc)
no_renamed_settings ms none (Plain RemoveWeak) is fields = absurd (cc)
no_renamed_settings ms none (Plain NoOp) is fields = absurd (cc)
no_renamed_settings ms none (Program words) is fields = absurd (cc)

-- Without a key and names no metadata came.
pub no_added_metadata : (ms : Members) → ((key : List (List ℕ)) (names : List (List ℕ)) → HasKey 1 (codes "key") ms key
    → texts_at (codes "names") ms ≡ Some names → ⊥) → HasNoWork kind.AddMetadata ms
no_added_metadata ms none (Plain (AddSettings settings)) is fields = absurd (cc)
no_added_metadata ms none (Plain (AddPrefixes prefixes)) is fields = absurd (cc)
no_added_metadata ms none (Plain (RemoveSettings settings)) is fields = absurd (cc)
no_added_metadata ms none (Plain (ReplaceString setting old new)) is fields = absurd (cc)
no_added_metadata ms none (Plain (RenameSettings pairs)) is fields = absurd (cc)
no_added_metadata ms none (Plain (AddMetadata key names)) is fields = none key names.items fields.0 fields.1
no_added_metadata ms none (Plain (RemoveMetadata key names)) is fields = absurd (cc)
no_added_metadata ms none (Plain (ReplaceMetadata key name old new)) is fields = absurd (cc)
no_added_metadata ms none (Plain RemoveWeak) is fields = absurd (cc)
no_added_metadata ms none (Plain NoOp) is fields = absurd (cc)
no_added_metadata ms none (Program words) is fields = absurd (cc)

-- Without a key and names no metadata went.
pub no_removed_metadata : (ms : Members) → ((key : List (List ℕ)) (names : List (List ℕ)) → HasKey 1 (codes "key") ms key
    → texts_at (codes "names") ms ≡ Some names → ⊥) → HasNoWork kind.RemoveMetadata ms
no_removed_metadata ms none (Plain (AddSettings settings)) is fields = absurd (cc)
no_removed_metadata ms none (Plain (AddPrefixes prefixes)) is fields = absurd (cc)
no_removed_metadata ms none (Plain (RemoveSettings settings)) is fields = absurd (cc)
no_removed_metadata ms none (Plain (ReplaceString setting old new)) is fields = absurd (cc)
no_removed_metadata ms none (Plain (RenameSettings pairs)) is fields = absurd (cc)
no_removed_metadata ms none (Plain (AddMetadata key names)) is fields = absurd (cc)
no_removed_metadata ms none (Plain (RemoveMetadata key names)) is fields = none key names.items fields.0 fields.1
no_removed_metadata ms none (Plain (ReplaceMetadata key name old new)) is fields = absurd (cc)
no_removed_metadata ms none (Plain RemoveWeak) is fields = absurd (cc)
no_removed_metadata ms none (Plain NoOp) is fields = absurd (cc)
no_removed_metadata ms none (Program words) is fields = absurd (cc)

-- Without a key, a name and two scalars no metadata changed.
pub no_replaced_metadata : (ms : Members) → ((key : List (List ℕ)) (name : List ℕ) (old new : Scalar) → HasKey 1 (codes "key") ms key
    → text_at (codes "name") ms ≡ Some name → scalar_at (codes "old") ms ≡ Some old → scalar_at (codes "new") ms ≡ Some new → ⊥)
    → HasNoWork kind.ReplaceMetadata ms
no_replaced_metadata ms none (Plain (AddSettings settings)) is fields = absurd (cc)
no_replaced_metadata ms none (Plain (AddPrefixes prefixes)) is fields = absurd (cc)
no_replaced_metadata ms none (Plain (RemoveSettings settings)) is fields = absurd (cc)
no_replaced_metadata ms none (Plain (ReplaceString setting old new)) is fields = absurd (cc)
no_replaced_metadata ms none (Plain (RenameSettings pairs)) is fields = absurd (cc)
no_replaced_metadata ms none (Plain (AddMetadata key names)) is fields = absurd (cc)
no_replaced_metadata ms none (Plain (RemoveMetadata key names)) is fields = absurd (cc)
no_replaced_metadata ms none (Plain (ReplaceMetadata key name old new)) is fields = none key name old new fields.0 fields.1 fields.2 fields.3
no_replaced_metadata ms none (Plain RemoveWeak) is fields = absurd (cc)
no_replaced_metadata ms none (Plain NoOp) is fields = absurd (cc)
no_replaced_metadata ms none (Program words) is fields = absurd (cc)

-- Without words there is no program.
pub no_program : (ms : Members) → ((words : List (List ℕ)) → HasWords (codes "words") ms words → ⊥) → HasNoWork kind.Program ms
no_program ms none (Plain (AddSettings settings)) is fields = absurd (cc)
no_program ms none (Plain (AddPrefixes prefixes)) is fields = absurd (cc)
no_program ms none (Plain (RemoveSettings settings)) is fields = absurd (cc)
no_program ms none (Plain (ReplaceString setting old new)) is fields = absurd (cc)
no_program ms none (Plain (RenameSettings pairs)) is fields = absurd (cc)
no_program ms none (Plain (AddMetadata key names)) is fields = absurd (cc)
no_program ms none (Plain (RemoveMetadata key names)) is fields = absurd (cc)
no_program ms none (Plain (ReplaceMetadata key name old new)) is fields = absurd (cc)
no_program ms none (Plain RemoveWeak) is fields = absurd (cc)
no_program ms none (Plain NoOp) is fields = absurd (cc)
no_program ms none (Program words) is fields = none (map string_bytes words.items) fields
