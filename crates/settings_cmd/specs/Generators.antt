-- The generators of an image, and what is made of their answers.
use Rattle.std.specs.Prelude.{◌≡◌, ◌≢◌, ◌⊎◌, ◌∷◌, [], ℕ, List, All, IsTrue, Option, Some, None, unwrap_or, Ok, Err, codes, ⊤}
use Rattle.outside.specs.History.{History, tree_of}
use Rattle.outside.specs.Names.{Names}
use Rattle.outside.specs.Spawner.{Question}
use Rattle.outside.specs.Told.{WhereTold}
use Rattle.key_names.specs.Key.{printed, is_prefix}
use Rattle.settings_tree.specs.Content.{settings_key}
use Rattle.store_image.specs.Paths.{sources_in}
use Rattle.store_open.specs.declared.opened.Opened.{Opened}
use Rattle.typed_settings.specs.declared.row.Row.{Row}
use Rattle.setting_generators.specs.Generators.{Given}
use Rattle.setting_generators.specs.Reading.{Spells, IsFault}
use Rattle.setting_generators.specs.Asking.{Generated, wanted, Asks}
use Rattle.setting_generators.specs.declared.generators_error.GeneratorsError.{GeneratorsError}
use Rattle.setting_generators.specs.declared.generators_error.GeneratorsKind.{GeneratorsKind}
use Rattle.setting_generators.specs.declared.generators_error.GeneratorsKind.TheVariants as kind
use Rattle.setting_generators.specs.declared.generate_error.GenerateError.{GenerateError}
use Rattle.setting_generators.specs.declared.generate_error.GenerateError.TheVariants as asking
use Rattle.command_outcome.specs.declared.refusal.Refusal.{Refusal}
use Rattle.command_outcome.specs.declared.refusal.Refusal.TheVariants as refused
use Rattle.settings_cmd.specs.Committing.{Made}

-- The transaction that their answers are committed by.
abbrev pub generate_tx : List ℕ
generate_tx = codes "cli-generate"

-- Where they are below the folder of the image.
abbrev pub generators_path : Names
generators_path = codes "generators.toml" ∷ []

-- The word for a fault of generators.
abbrev pub generators_word : GeneratorsKind → List ℕ
generators_word kind.NotToml = codes "not-toml"
generators_word kind.BadKey = codes "bad-key"
generators_word kind.IllTyped = codes "ill-typed"
generators_word kind.BadCommand = codes "bad-command"
generators_word kind.Memory = []

-- ---- the file

-- With these types the file that was found spells these generators; none where there is no file.
abbrev pub AreGeneratorsIn : List Row → Option (List ℕ) → List Given → Type 0
AreGeneratorsIn table None given = given ≡ []
AreGeneratorsIn table (Some text) given = Spells table text given

-- The file that was found has this fault.
pub record HasGeneratorsFault (table : List Row) (found : Option (List ℕ)) (word at : List ℕ) : Type 0 where
  pub text : List ℕ
  pub there : found ≡ Some text
  pub which : GeneratorsKind
  pub fault : IsFault table text which at
  pub word_is : word ≡ generators_word which

-- Why they could not be read: the file has a fault; or the disk or memory failed.
abbrev pub TellsOfGenerators : List Row → Option (List ℕ) → Refusal → Type 0
TellsOfGenerators table found (refused.BadImage file word at) = (file ≡ codes "generators.toml") × HasGeneratorsFault table found word at
TellsOfGenerators table found refused.Disk = ⊤
TellsOfGenerators table found refused.Memory = ⊤
TellsOfGenerators table found _ = ⊥

-- Such a refusal.
abbrev pub IsOfGenerators : Refusal → Type 0
IsOfGenerators (refused.BadImage file word at) = ⊤
IsOfGenerators refused.Disk = ⊤
IsOfGenerators refused.Memory = ⊤
IsOfGenerators _ = ⊥

-- ---- their answers

-- The program for the key could not be asked, which is reported under the printed key; or it ran out of memory for that.
abbrev pub HandsFailed : List (List ℕ) → Refusal → Type 0
HandsFailed key refusal = (refusal ≡ refused.Spawn (printed key)) ⊎ (refusal ≡ refused.Memory)

-- Why generators gave no values is reported as it is.
abbrev pub HandsError : GenerateError → Refusal → Type 0
HandsError (asking.Failed key) refusal = HandsFailed key refusal
HandsError (asking.Status key number) refusal = refusal ≡ refused.GeneratorStatus key number
HandsError (asking.BadOutput key) refusal = refusal ≡ refused.GeneratorOutput key
HandsError asking.Memory refusal = refusal ≡ refused.Memory

-- The pairs that they gave, or why they gave none.
abbrev pub HandsAnswers : Generated → Made → Type 0
HandsAnswers (Ok pairs) made = made ≡ Ok pairs
HandsAnswers (Err e) (Err refusal) = HandsError e refusal
HandsAnswers (Err e) (Ok pairs) = ⊥

-- These generators are asked one after another, and what they answer gives the pairs.
pub record Answers (generators : List Given) (a a' : Option (List Question)) (made : Made) : Type 0 where
  pub generated : Generated
  pub asks : Asks generators a a' generated
  pub hands : HandsAnswers generated made

-- The generators of the image could not be read, and nothing was asked.
pub record HasNoGenerators (a a' : Option (List Question)) (store : Opened) (made : Made) (d : Option History) : Type 0 where
  pub refusal : Refusal
  pub refuses : made ≡ Err refusal
  pub tells : WhereTold d (λ h. TellsOfGenerators store.image.model.types (sources_in (tree_of h) generators_path) refusal)
  pub unasked : a' ≡ a

-- Those of them are asked whose key has no live value in the store.
pub record HasAnswers (a a' : Option (List Question)) (store : Opened) (made : Made) (d : Option History) : Type 0 where
  pub given : List Given
  pub read : WhereTold d (λ h. AreGeneratorsIn store.image.model.types (sources_in (tree_of h) generators_path) given)
  pub answers : Answers (wanted store.held.live given) a a' made

-- What the generators give to an open store, on this disk, with what was asked before and after.
abbrev pub IsGenerated : Option (List Question) → Option (List Question) → Opened → Made → Option History → Type 0
IsGenerated a a' store made d = HasNoGenerators a a' store made d ⊎ HasAnswers a a' store made d

-- ---- for private clauses

-- The keys begin with `settings`.
abbrev pub BeginWithSettings : List Given → Type 0
BeginWithSettings given = All (λ g. IsTrue (is_prefix settings_key g.0)) given

-- The generators of a file, none where it is missing.
abbrev pub given_of : Option (List Given) → List Given
given_of found = unwrap_or found []

-- Out of memory is reported as that, and any other fault under its word, at its place.
abbrev pub TellsOfFault : GeneratorsError → Refusal → Type 0
TellsOfFault error refusal =
    (refusal ≡ refused.Memory) ⊎ ((error.kind ≢ kind.Memory) × (refusal ≡ refused.BadImage (codes "generators.toml") (generators_word error.kind) error.at))

-- The text has this fault, or it ran out of memory.
abbrev pub TellsOfText : List Row → List ℕ → Refusal → Type 0
TellsOfText table text refusal =
    (refusal ≡ refused.Memory) ⊎ ((which : GeneratorsKind) × (at : List ℕ) × IsFault table text which at
    × (refusal ≡ refused.BadImage (codes "generators.toml") (generators_word which) at))

-- Why there are no pairs: the generators could not be read or asked; or the disk or memory failed.
abbrev pub IsOfGenerating : Refusal → Type 0
IsOfGenerating (refused.BadImage file word at) = ⊤
IsOfGenerating (refused.Spawn name) = ⊤
IsOfGenerating (refused.GeneratorStatus key number) = ⊤
IsOfGenerating (refused.GeneratorOutput key) = ⊤
IsOfGenerating refused.Disk = ⊤
IsOfGenerating refused.Memory = ⊤
IsOfGenerating _ = ⊥
