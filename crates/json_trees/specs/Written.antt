-- What is written for JSON values, and which values read back.
use Rattle.std.specs.Prelude.{◌≡◌, ◌≤◌, ℕ, List, Some, FitsSigned, ⊤}
use Rattle.std.specs.Int.{w64}
use Rattle.std.specs.List.{AllByRecursion}
use Rattle.json.specs.Token.{Token}
use Rattle.json.specs.Tree.{json_tokens, HasNumbers}
use Rattle.serde_json.specs.Data.{Data, depth}
use Rattle.serde_json.specs.Read.{of_json}
use Rattle.serde_json.specs.Written.{outline}
use Rattle.json_trees.specs.declared.item.Item.{Item}
use Rattle.json_trees.specs.declared.item.Item.TheVariants as item
use Rattle.json_trees.specs.declared.scalar.Scalar.{Scalar}
use Rattle.json_trees.specs.declared.scalar.Scalar.TheVariants as scalar

-- The tokens of a JSON value.
abbrev pub data_tokens : Data → List Token
data_tokens d = json_tokens (outline d)

-- A whole number fits an i64.
abbrev pub ItemInRange : Item → Type 0
ItemInRange (item.Bool b) = ⊤
ItemInRange (item.Int z) = FitsSigned w64 z
ItemInRange (item.Text s) = ⊤

-- Each whole number fits an i64, as it does in each scalar of the code.
abbrev pub ScalarInRange : Scalar → Type 0
ScalarInRange (scalar.Bool b) = ⊤
ScalarInRange (scalar.Int z) = FitsSigned w64 z
ScalarInRange (scalar.Text s) = ⊤
ScalarInRange (scalar.List items) = AllByRecursion ItemInRange items

-- The tokens of the value read back as the value, which nests at most so deep.
pub record IsReadable (most : ℕ) (d : Data) : Type 0 where
  pub reads_back : of_json (outline d) ≡ Some d
  pub numbers : HasNumbers (outline d)
  pub shallow : depth d ≤ most
