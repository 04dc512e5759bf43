-- JSON in bytes: the test for UTF-8 next to the fact.
use Rattle.std.proofs.Common.{◌≡◌, ℕ, List, Option, None, Bool, true, false, if◌then◌else◌, refl, ap, ◌∙◌}
use Rattle.std.specs.Str.{IsUtf8, is_utf8}
use Rattle.std.proofs.lemmas.Str.{IsUtf8-from_is_utf8, is_utf8-from_IsUtf8}
use Rattle.serde_json.specs.Data.{Data}
use Rattle.serde_json.specs.Read.{read}
use Rattle.json_trees.specs.Json.{data_of}

abbrev chosen : List ℕ → Bool → Option Data
chosen b test = if test then read b else None

-- of UTF-8 the value is what is read
pub data_of-text : (b : List ℕ) → IsUtf8 b → data_of b ≡ read b
data_of-text b h = ap (chosen b) (is_utf8-from_IsUtf8 b h)

-- bytes that are not UTF-8, or are not read, are no value
pub data_of-none : (b : List ℕ) → (IsUtf8 b → read b ≡ None) → data_of b ≡ None
data_of-none b h = by (is_utf8 b) refl
  where
    by : (test : Bool) → is_utf8 b ≡ test → data_of b ≡ None
    by true e = ap (chosen b) e ∙ h (IsUtf8-from_is_utf8 b e)
    by false e = ap (chosen b) e
