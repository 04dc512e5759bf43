-- The release of an image.
use Rattle.std.specs.Prelude.{◌≡◌, ◌≢◌, ◌⊎◌, ◌∷◌, [], ℕ, List, Some, None, Result, Ok, Err, codes, ⊤}
use Rattle.outside.specs.Names.{Names}
use Rattle.store_image.specs.Paths.{Sources}
use Rattle.release_file.specs.Reading.{Spells, IsFault}
use Rattle.release_file.specs.declared.release.Release.{Release}
use Rattle.release_file.specs.declared.release_error.ReleaseError.{ReleaseError}
use Rattle.release_file.specs.declared.release_error.ReleaseKind.{ReleaseKind}
use Rattle.release_file.specs.declared.release_error.ReleaseKind.TheVariants as kind
use Rattle.command_outcome.specs.declared.refusal.Refusal.{Refusal}
use Rattle.command_outcome.specs.declared.refusal.Refusal.TheVariants as refused

-- Where it is below the folder of the image.
abbrev pub release_path : Names
release_path = codes "release.toml" ∷ []

-- The word for a fault of a release.
abbrev pub release_word : ReleaseKind → List ℕ
release_word kind.NotToml = codes "not-toml"
release_word kind.UnknownSection = codes "unknown-section"
release_word kind.BadVersion = codes "bad-version"
release_word kind.BadMigration = codes "bad-migration"
release_word kind.BadPair = codes "bad-pair"
release_word kind.UnknownMigration = codes "unknown-migration"
release_word kind.Memory = []

-- The release file is there and spells this release.
pub record IsReleaseIn (files : Sources) (release : Release) : Type 0 where
  pub text : List ℕ
  pub there : files release_path ≡ Some text
  pub spelled : Spells text release

-- The release file has this fault.
pub record HasFault (files : Sources) (word at : List ℕ) : Type 0 where
  pub text : List ℕ
  pub there : files release_path ≡ Some text
  pub which : ReleaseKind
  pub fault : IsFault text which at
  pub word_is : word ≡ release_word which

-- The release file is missing.
pub record IsMissing (files : Sources) (word at : List ℕ) : Type 0 where
  pub none : files release_path ≡ None
  pub word_is : word ≡ codes "missing"
  pub at_is : at ≡ codes "-"

-- Why there is no release: its file is missing or has a fault; or the disk or memory failed.
abbrev pub TellsOfRelease : Sources → Refusal → Type 0
TellsOfRelease files (refused.BadImage file word at) = (file ≡ codes "release.toml") × (IsMissing files word at ⊎ HasFault files word at)
TellsOfRelease files refused.Disk = ⊤
TellsOfRelease files refused.Memory = ⊤
TellsOfRelease files _ = ⊥

-- Such a refusal.
abbrev pub IsOfRelease : Refusal → Type 0
IsOfRelease (refused.BadImage file word at) = ⊤
IsOfRelease refused.Disk = ⊤
IsOfRelease refused.Memory = ⊤
IsOfRelease _ = ⊥

-- ---- for private clauses

-- Out of memory is reported as that, and any other fault under its word, at its place.
abbrev pub TellsOfText : ReleaseError → Refusal → Type 0
TellsOfText error refusal = (refusal ≡ refused.Memory) ⊎ ((error.kind ≢ kind.Memory)
    × (refusal ≡ refused.BadImage (codes "release.toml") (release_word error.kind) error.at))

-- The text spells the release, or this is reported of it.
abbrev pub Reads : List ℕ → Result Release Refusal → Type 0
Reads text (Ok release) = Spells text release
Reads text (Err refusal) = (refusal ≡ refused.Memory) ⊎ ((which : ReleaseKind) × (at : List ℕ) × IsFault text which at
    × (refusal ≡ refused.BadImage (codes "release.toml") (release_word which) at))
