-- A readable value's text reads back as the value.
use Rattle.std.proofs.Common.{◌≡◌, ℕ, ◌≤◌, List, [], Option, Some, option_and_then, suc, refl, sym, ap, ◌∙◌, arith, append-nil}
use Rattle.std.specs.Str.{IsUtf8}
use Rattle.json.specs.Token.{Token}
use Rattle.json.specs.Lex.{tokens}
use Rattle.json.specs.Json as json
use Rattle.json.specs.Tree as tree
use Rattle.json.proofs.Printed.Trees.{value-json_tokens}
use Rattle.serde_json.specs.Data.{Data, null, boolean, number, string, array, object, Items}
use Rattle.serde_json.specs.Data.{no_items, item, Members, no_members, member, depth, items_depth, members_depth}
use Rattle.serde_json.specs.Read.{of_json, max_depth}
use Rattle.serde_json.specs.Written.{outline, items_outline, members_outline}
use Rattle.json_trees.specs.Json.{data_of}
use Rattle.json_trees.specs.Written.{data_tokens, IsReadable}
use Rattle.json_trees.proofs.Bytes.{data_of-text}

mutual
  depth-outline : (d : Data) → tree.depth (outline d) ≡ depth d
  depth-outline null = refl
  depth-outline (boolean b) = refl
  depth-outline (number n) = refl
  depth-outline (string s) = refl
  depth-outline (array ds) = ap suc (items_depth-outline ds)
  depth-outline (object ms) = ap suc (members_depth-outline ms)

  items_depth-outline : (ds : Items) → tree.items_depth (items_outline ds) ≡ items_depth ds
  items_depth-outline no_items = refl
  items_depth-outline (item d ds) = rw (depth-outline d, items_depth-outline ds) refl

  members_depth-outline : (ms : Members) → tree.members_depth (members_outline ms) ≡ members_depth ms
  members_depth-outline no_members = refl
  members_depth-outline (member k d ms) = rw (depth-outline d, members_depth-outline ms) refl

abbrev whole : Option (json.Json × List Token) → Option Data
whole o = option_and_then of_json (option_and_then (λ p. json.if_last p.0 p.1) o)

-- a text of UTF-8 with the tokens of a readable value is JSON of this value
pub data_of-tokens : (d : Data) (most : ℕ) (text : List ℕ) → IsReadable most d → most ≤ max_depth → IsUtf8 text → tokens text ≡ data_tokens d
    → data_of text ≡ Some d
data_of-tokens d most text readable bound utf8 is =
    data_of-text text utf8 ∙ ap whole (ap (json.value max_depth) (is ∙ sym (append-nil (data_tokens d)))
    ∙ value-json_tokens (outline d) max_depth [] (omega (arith, depth-outline d, readable.shallow)))
    ∙ readable.reads_back
