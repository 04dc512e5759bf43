-- The text of a tree.
use Rattle.std.proofs.Common.{◌≡◌, ℕ, List, Option, Some, ok_or, option_map, take, ap, ◌∙◌, arith}
use Rattle.json.specs.Token.{Token}
use Rattle.std.specs.Map.{keys_of}
use Rattle.std.specs.Str.{IsUtf8}
use Rattle.json.specs.Lex.{tokens}
use Rattle.json.specs.Print.{print}
use Rattle.serde_json.proofs.Texts.{print-outline}
use Rattle.serde_json.specs.Data.{Data, Members, object}
use Rattle.json_trees.specs.Collected.{result_and_then}
use Rattle.json_trees.specs.Json.{data_of}
use Rattle.json_trees.specs.Nested.{NestsAs, FlattensBack, IsTreeOf}
use Rattle.json_trees.specs.Tree.{Path, tree_pairs}
use Rattle.json_trees.specs.Written.{data_tokens}
use Rattle.json_trees.specs.declared.tree_error.TreeError.TheVariants.{NotJson}
use Rattle.json_trees.proofs.Back.{members_pairs-back}
use Rattle.json_trees.proofs.Shared.{each}
use Rattle.json_trees.proofs.Trip.{data_of-tokens}

module _ {V : Type 0} (leaf : Data → Option V) (written : V → Data) (n : ℕ) (pairs : List (Path × V)) (ms : Members) (tree : IsTreeOf leaf written n pairs ms)
    (text : List ℕ) where
  reads_as : IsUtf8 text → tokens text ≡ data_tokens (object ms) → data_of text ≡ Some (object ms)
  reads_as utf8 is =
      data_of-tokens (object ms) 33 text (record {
        reads_back = ap (option_map object) tree.reads_back;
        numbers = tree.numbers;
        shallow =
            omega (arith, tree.shallow);
      }) (omega arith) utf8 is

  -- the text of the tree of some pairs is what they nest as
  pub NestsAs-text : (ts : List Token) → text ≡ print ts → IsUtf8 text → tokens text ≡ ts → ts ≡ data_tokens (object ms) → NestsAs written n pairs text
  NestsAs-text ts printed utf8 read is = record {
    members = ms;
    reads_as = reads_as utf8 (read ∙ is);
    leaves_are = tree.leaves_are;
    compact = printed ∙ ap print is ∙ print-outline (object ms);
  }

  -- and flattens to the pairs
  pub FlattensBack-text : IsUtf8 text → tokens text ≡ data_tokens (object ms) → FlattensBack leaf n pairs text
  FlattensBack-text utf8 is under alike =
      ap (λ o. result_and_then (tree_pairs leaf under) (ok_or o NotJson)) (reads_as utf8 is)
      ∙ members_pairs-back leaf written n under pairs ms (each (λ key. take n key ≡ under) (keys_of pairs) alike) tree.sound tree.leaves_are
