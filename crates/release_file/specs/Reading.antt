-- Which release a text is, or why it is none.
use Rattle.std.specs.Prelude.{◌≡◌, ℕ, List, [], ◌∷◌, codes, Option, Some, None}
use Rattle.std.specs.List.{AllByRecursion}
use Rattle.std.specs.List.Sorted.{IsPermutation}
use Rattle.toml.specs.Data.{Data, Members}
use Rattle.toml_values.specs.Document.{table_of}
use Rattle.release_file.specs.Checks.{Check, Holds, checks, fault_of, name_of, IsFirstFailing, IsTransition, migrations_in, transitions_in}
use Rattle.release_file.specs.Works.{SpellsWork}
use Rattle.release_file.specs.declared.release.Release.{Release}
use Rattle.release_file.specs.declared.release_error.ReleaseKind.{ReleaseKind}
use Rattle.release_file.specs.declared.release_error.ReleaseKind.TheVariants.{NotToml}
use Rattle.release_file.specs.declared.transition.Transition.{Transition}
use Rattle.release_file.specs.declared.work.Named.{Named}

-- The entry spells this migration.
pub record IsNamed (entry : List ℕ × Data) (migration : Named) : Type 0 where
  pub name_is : migration.name ≡ entry.0
  pub work : SpellsWork entry.1 migration.work

-- The entries spell these migrations, one each.
abbrev pub AreNamed : List (List ℕ × Data) → List Named → Type 0
AreNamed [] [] = Unit {0}
AreNamed [] (n ∷ ns) = ⊥
AreNamed (e ∷ es) [] = ⊥
AreNamed (e ∷ es) (n ∷ ns) = IsNamed e n × AreNamed es ns

-- The entries spell these transitions, one each.
abbrev pub AreTransitions : List (List ℕ × Data) → List Transition → Type 0
AreTransitions [] [] = Unit {0}
AreTransitions [] (t ∷ ts) = ⊥
AreTransitions (e ∷ es) [] = ⊥
AreTransitions (e ∷ es) (t ∷ ts) = IsTransition e t.from t.to t.names.items × AreTransitions es ts

-- The release has the document's migrations in the order of their names, and its transitions in the order of their versions.
pub record IsReleaseOf (document : Members) (release : Release) : Type 0 where
  pub migrations : AreNamed (migrations_in document) release.migrations.items
  pub listed : List Transition
  pub transitions : AreTransitions (transitions_in document) listed
  pub in_order : IsPermutation listed release.transitions.items

-- The text is a document for which all checks hold, and this is its release.
pub record Spells (text : List ℕ) (release : Release) : Type 0 where
  pub document : Members
  pub read : table_of text ≡ Some document
  pub hold : AllByRecursion Holds (checks document)
  pub release_is : IsReleaseOf document release

-- The fault is that of the first check which fails.
abbrev pub HasFault : Option Members → ReleaseKind → List ℕ → Type 0
HasFault None kind at = (kind ≡ NotToml) × (at ≡ codes "-")
HasFault (Some document) kind at = (check : Check) × IsFirstFailing (checks document) check × (kind ≡ fault_of check) × (at ≡ name_of check)

-- The text has this fault: it is no TOML, or else its first check that fails is of this kind and of the entry of this name.
abbrev pub IsFault : List ℕ → ReleaseKind → List ℕ → Type 0
IsFault text kind at = HasFault (table_of text) kind at
