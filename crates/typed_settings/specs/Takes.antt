-- Which values each word takes.
use Rattle.std.specs.Prelude.{ℕ, ℤ, Bool, true, false, ◌&&◌, ◌==◌, not, int_le, List, length, Result, Ok, Err, is_ok}
use Rattle.std.specs.List.{list_all, list_any}
use Rattle.std.specs.Str.{bytes_eq}
use Rattle.semver.specs.Parse.{Parts, version_parts}
use Rattle.semver.specs.declared.error.Error.{Error}
use Rattle.base64.specs.Engines.{standard}
use Rattle.base64.specs.GeneralPurpose.{decode_of}
use Rattle.json_trees.specs.declared.item.Item.{Item}
use Rattle.json_trees.specs.declared.item.Item.TheVariants as value
use Rattle.json_trees.specs.declared.scalar.Scalar.{Scalar}
use Rattle.json_trees.specs.declared.scalar.Scalar.TheVariants as scalar
use Rattle.typed_settings.specs.Word.{is_identifier}
use Rattle.typed_settings.specs.declared.item_word.ItemWord.{ItemWord}
use Rattle.typed_settings.specs.declared.item_word.ItemWord.TheVariants as item
use Rattle.typed_settings.specs.declared.word.Word.{Word}
use Rattle.typed_settings.specs.declared.word.Word.TheVariants as word

-- A line has neither a line feed nor a carriage return.
abbrev pub is_line : List ℕ → Bool
is_line text = list_all (λ b. not (b == 10) && not (b == 13)) text

-- Base64 is what the padded standard alphabet of RFC 4648 decodes.
abbrev pub is_base64 : List ℕ → Bool
is_base64 text = is_ok (decode_of standard text)

-- A version of SemVer 2.0.0 with neither a pre-release nor a build part.
abbrev pub is_plain : Result Parts Error → Bool
is_plain (Ok p) = length p.3 == 0 && length p.4 == 0
is_plain (Err e) = false

-- A version is three numbers, as SemVer 2.0.0 reads them.
abbrev pub is_version : List ℕ → Bool
is_version text = is_plain (version_parts text)

-- The text is one of the names.
abbrev pub is_offered : List (List ℕ) → List ℕ → Bool
is_offered names text = list_any (λ name. bytes_eq name text) names

-- Which texts a word takes.
abbrev pub takes_text : ItemWord → List ℕ → Bool
takes_text item.Text text = true
takes_text item.Line text = is_line text
takes_text item.Identifier text = is_identifier text
takes_text item.Base64 text = is_base64 text
takes_text item.Version text = is_version text
takes_text (item.Choice names) text = is_offered names text
takes_text _ text = false

-- Which numbers a word takes: those from its first bound to its second, the bounds included.
abbrev pub takes_int : ItemWord → ℤ → Bool
takes_int (item.Int low high) n = int_le low n && int_le n high
takes_int _ n = false

-- Which truth values a word takes.
abbrev pub takes_bool : ItemWord → Bool
takes_bool item.Bool = true
takes_bool _ = false

-- Which items of a list a word takes.
abbrev pub takes_item : ItemWord → Item → Bool
takes_item w (value.Bool b) = takes_bool w
takes_item w (value.Int n) = takes_int w n
takes_item w (value.Text text) = takes_text w text

-- Which values a word takes: a list word takes lists alone, of items that its word takes.
abbrev pub takes : Word → Scalar → Bool
takes (word.One w) (scalar.Bool b) = takes_bool w
takes (word.One w) (scalar.Int n) = takes_int w n
takes (word.One w) (scalar.Text text) = takes_text w text
takes (word.One w) (scalar.List items) = false
takes (word.List w) (scalar.List items) = list_all (takes_item w) items
takes (word.List w) _ = false
