-- Lists of keys written as JSON, which read back as scalars.
use Rattle.std.proofs.Common.{◌≡◌, ℕ, List, [], ◌∷◌, map, Ok, refl, ap, ◌∙◌}
use Rattle.std.specs.List.{AllByRecursion}
use Rattle.std.specs.Str.{IsUtf8}
use Rattle.json.specs.Lex.{tokens}
use Rattle.json.specs.Print.{print}
use Rattle.json.specs.Written.{Written}
use Rattle.serde_json.specs.Data.{Data}
use Rattle.serde_json.specs.Written.{compact_text}
use Rattle.json_trees.specs.Scalar.{scalar_data, item_data, scalar_read, json_text}
use Rattle.json_trees.specs.Written.{data_tokens, ItemInRange, ScalarInRange}
use Rattle.json_trees.proofs.Scalars.{scalar_read-tokens}
use Rattle.json_trees.specs.declared.scalar.Scalar.{Scalar}
use Rattle.held_text.specs.HeldText.{list_data, key_data, keys_data, owed_data}
use Rattle.held_text.specs.HeldRules.{Wrote}
use Rattle.held_text.proofs.Printing.{printed_value, printed_tokens}
use Rattle.settings_tree.specs.declared.entry.Owed.{Owed}
use Rattle.settings_tree.specs.declared.entry.Owed.TheVariants.{All, Keys}
use Rattle.fs_datastore.specs.Values.{IsCompact, list_of, owed_scalar}
use Rattle.fs_datastore.specs.Texts.{key_items}

-- a list of keys is the value of the scalar of their texts
pub keys_as_scalar : (keys : List (List (List ℕ))) → keys_data keys ≡ scalar_data (list_of keys)
keys_as_scalar keys = ap list_data (texts keys) where
  texts : (ks : List (List (List ℕ))) → map key_data ks ≡ map item_data (key_items ks)
  texts [] = refl
  texts (k ∷ ks) = ap (λ (l : List Data). key_data k ∷ l) (texts ks)

pub owed_as_scalar : (owed : Owed) → owed_data owed ≡ scalar_data (owed_scalar owed)
owed_as_scalar All = refl
owed_as_scalar (Keys keys) = keys_as_scalar keys

texts_in_range : (keys : List (List (List ℕ))) → AllByRecursion ItemInRange (key_items keys)
texts_in_range [] = tt
texts_in_range (k ∷ ks) = (tt, texts_in_range ks)

pub keys_in_range : (keys : List (List (List ℕ))) → ScalarInRange (list_of keys)
keys_in_range keys = texts_in_range keys

pub owed_in_range : (owed : Owed) → ScalarInRange (owed_scalar owed)
owed_in_range All = tt
owed_in_range (Keys keys) = texts_in_range keys

-- where nothing but the value of a scalar was written, the text is the scalar's, and reads as it
pub compact_written : (s : Scalar) (d : Data) (text : List ℕ) (a b : Written) → ScalarInRange s → d ≡ scalar_data s → IsUtf8 text → text ≡ print b.tokens
    → tokens text ≡ b.tokens → a.tokens ≡ [] → Wrote d a b → IsCompact text s
compact_written s d text a b fits is utf8 printed back none wrote = record {
  reads = scalar_read-tokens s text fits utf8 (back ∙ printed_tokens d a b none wrote ∙ ap data_tokens is);
  compact = printed_value d text a b printed none wrote ∙ ap (λ (x : Data). compact_text x) is;
}
