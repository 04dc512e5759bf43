-- User data on a disk, and the pairs that they give.
use Rattle.std.specs.Prelude.{◌≡◌, ◌≢◌, ◌⊎◌, ℕ, List, [], Option, Some, None, Ok, Err, codes, ⊤}
use Rattle.json_trees.specs.declared.scalar.Scalar.{Scalar}
use Rattle.user_data.specs.Pairs.{pairs_of}
use Rattle.user_data.specs.declared.user_data_error.UserDataError.{UserDataError}
use Rattle.user_data.specs.declared.user_data_error.UserDataKind.{UserDataKind}
use Rattle.user_data.specs.declared.user_data_error.UserDataKind.TheVariants as kind
use Rattle.command_outcome.specs.declared.refusal.Refusal.{Refusal}
use Rattle.command_outcome.specs.declared.refusal.Refusal.TheVariants as refused
use Rattle.settings_cmd.specs.Committing.{Made}

-- The transaction that they are committed by.
abbrev pub data_tx : List ℕ
data_tx = codes "user-data"

-- The word for a fault of user data.
abbrev pub data_word : UserDataKind → List ℕ
data_word kind.NotToml = codes "not-toml"
data_word kind.NotSettings = codes "not-settings"
data_word kind.BadKey = codes "bad-key"
data_word kind.BadValue = codes "bad-value"
data_word kind.Memory = []

-- A file is there, and its text gives these pairs.
pub record GivesPairs (found : Option (List ℕ)) (pairs : List (List (List ℕ) × Scalar)) : Type 0 where
  pub text : List ℕ
  pub there : found ≡ Some text
  pub given : pairs_of text ≡ Ok pairs

-- No file is there.
pub record IsNoFile (found : Option (List ℕ)) (word at : List ℕ) : Type 0 where
  pub none : found ≡ None
  pub word_is : word ≡ codes "missing"
  pub at_is : at ≡ codes "-"

-- A file is there, and its text has this fault first.
pub record HasDataFault (found : Option (List ℕ)) (word at : List ℕ) : Type 0 where
  pub text : List ℕ
  pub there : found ≡ Some text
  pub error : UserDataError
  pub fault : pairs_of text ≡ Err error
  pub word_is : word ≡ data_word error.kind
  pub at_is : at ≡ error.at

-- The pairs of what was found, or why there are none: no file is there, or it has a fault; or the disk or memory failed.
abbrev pub TellsOfData : Option (List ℕ) → Made → Type 0
TellsOfData found (Ok pairs) = GivesPairs found pairs
TellsOfData found (Err (refused.UserData word at)) = IsNoFile found word at ⊎ HasDataFault found word at
TellsOfData found (Err refused.Disk) = ⊤
TellsOfData found (Err refused.Memory) = ⊤
TellsOfData found (Err _) = ⊥

-- Why there are none.
abbrev pub IsOfData : Refusal → Type 0
IsOfData (refused.UserData word at) = ⊤
IsOfData refused.Disk = ⊤
IsOfData refused.Memory = ⊤
IsOfData _ = ⊥

-- ---- for private clauses

-- Out of memory is reported as that, and any other fault under its word, at its place.
abbrev pub TellsOfDataFault : UserDataError → Refusal → Type 0
TellsOfDataFault error refusal = (refusal ≡ refused.Memory) ⊎ ((error.kind ≢ kind.Memory) × (refusal ≡ refused.UserData (data_word error.kind) error.at))
