-- What a document must meet to be a release, check by check in the order in which they are made.
use Rattle.std.specs.Prelude.{◌≡◌, ℕ, Bool, true, List, [], ◌∷◌, ◌++◌, map, codes, IsTrue, is_some, unwrap_or, Option, Some, None}
use Rattle.std.specs.List.{AllByRecursion, list_all, list_any}
use Rattle.std.specs.Ordering.{eq_by_cmp}
use Rattle.key_names.specs.Order.{bytes_cmp}
use Rattle.toml.specs.Data.{Data, as_table, Members, no_members, get_member}
use Rattle.toml_values.specs.Document.{named}
use Rattle.toml_values.specs.Values.{text_of}
use Rattle.version_links.specs.declared.version.Version.{Version}
use Rattle.version_links.specs.Versions.{version_of}
use Rattle.release_file.specs.Fields.{read_by, texts_of}
use Rattle.release_file.specs.Pair.{IsPair}
use Rattle.release_file.specs.Works.{SpellsWork}
use Rattle.release_file.specs.declared.work.Work.{Work}
use Rattle.release_file.specs.declared.release_error.ReleaseKind.{ReleaseKind}
use Rattle.release_file.specs.declared.release_error.ReleaseKind.TheVariants.{UnknownSection, BadVersion, BadMigration, BadPair, UnknownMigration}

-- A check of an entry.
pub data Check : Type 0 where
  -- A plain test, with the kind of the fault where it fails, and the entry's name.
  test : Bool → ReleaseKind → List ℕ → Check
  -- The entry of this name and value is a migration.
  migration : List ℕ × Data → Check
  -- The entry of this name and value is a transition.
  transition : List ℕ × Data → Check

-- The kind of the fault where the check fails.
abbrev pub fault_of : Check → ReleaseKind
fault_of (test is kind at) = kind
fault_of (migration entry) = BadMigration
fault_of (transition entry) = BadPair

-- The name of the entry.
abbrev pub name_of : Check → List ℕ
name_of (test is kind at) = at
name_of (migration entry) = entry.0
name_of (transition entry) = entry.0

-- The entry leads from one version to a later one by migrations with these names.
pub record IsTransition (entry : List ℕ × Data) (from to : Version) (names : List (List ℕ)) : Type 0 where
  pub pair : IsPair entry.0 from to
  pub names_are : texts_of entry.1 ≡ Some names

-- The check holds.
abbrev pub Holds : Check → Type 0
Holds (test is kind at) = IsTrue is
Holds (migration entry) = (work : Work) × SpellsWork entry.1 work
Holds (transition entry) = (from : Version) × (to : Version) × (names : List (List ℕ)) × IsTransition entry from to names

-- ---- the sections

-- The names that may be at the top.
abbrev pub sections : List (List ℕ)
sections = codes "version" ∷ codes "migrations" ∷ codes "migration" ∷ []

-- A section is a table, where it is there.
abbrev pub is_section : Option Data → Bool
is_section None = true
is_section (Some value) = is_some (as_table value)

-- The members of a section; one that is missing, or no table, has none.
abbrev pub section_members : List ℕ → Members → Members
section_members name document = unwrap_or (read_by as_table (get_member name document)) no_members

-- The migrations of a document, each name with its value, in the table's order, which is that of the names' bytes.
abbrev pub migrations_in : Members → List (List ℕ × Data)
migrations_in document = named (section_members (codes "migration") document)

-- The transitions of a document, in the same order.
abbrev pub transitions_in : Members → List (List ℕ × Data)
transitions_in document = named (section_members (codes "migrations") document)

-- The version, where there is one, is a text of three numbers.
abbrev pub is_version : Option Data → Bool
is_version None = true
is_version (Some value) = is_some (read_by version_of (text_of value))

-- A migration of this name is among the members.
abbrev pub is_defined : Members → List ℕ → Bool
is_defined migrations name = is_some (get_member name migrations)

-- ---- the checks

-- Each top-level name is that of a section.
abbrev pub name_checks : Members → List Check
name_checks document = map (λ entry. test (list_any (eq_by_cmp bytes_cmp entry.0) sections) UnknownSection entry.0) (named document)

-- The section of this name is a table.
abbrev pub section_check : ReleaseKind → List ℕ → Members → Check
section_check kind name document = test (is_section (get_member name document)) kind name

-- The migrations are a table of migrations.
abbrev pub migration_checks : Members → List Check
migration_checks document = section_check BadMigration (codes "migration") document ∷ map migration (migrations_in document)

-- The transitions are a table of transitions.
abbrev pub transition_checks : Members → List Check
transition_checks document = section_check BadPair (codes "migrations") document ∷ map transition (transitions_in document)

-- Each migration that a transition names is among the members.
abbrev pub known_check : Members → List ℕ × Data → Check
known_check migrations entry = test (list_all (is_defined migrations) (unwrap_or (texts_of entry.1) [])) UnknownMigration entry.0

-- That each transition names migrations of the document.
abbrev pub known_checks : Members → List Check
known_checks document = map (known_check (section_members (codes "migration") document)) (transitions_in document)

-- The version, where there is one, is a text of three numbers.
abbrev pub version_check : Members → Check
version_check document = test (is_version (get_member (codes "version") document)) BadVersion (codes "version")

-- All checks of a document, in their order.
abbrev pub checks : Members → List Check
checks document = name_checks document ++ (version_check document ∷ (migration_checks document ++ (transition_checks document ++ known_checks document)))

-- The check is the first that fails.
pub record IsFirstFailing (all : List Check) (check : Check) : Type 0 where
  pub before : List Check
  pub after : List Check
  pub split : all ≡ before ++ check ∷ after
  pub hold : AllByRecursion Holds before
  pub fails : Holds check → ⊥
