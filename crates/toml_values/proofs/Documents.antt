-- The document that a text is.
use Rattle.std.proofs.Common.{◌≡◌, ℕ, List, Bool, true, false, Some, None, refl, sym, ◌∙◌, ap}
use Rattle.std.specs.Prelude.{if◌then◌else◌}
use Rattle.std.specs.Str.{IsUtf8, is_utf8}
use Rattle.std.proofs.lemmas.Str.{IsUtf8-from_is_utf8, is_utf8-from_IsUtf8}
use Rattle.toml.specs.Data.{Members}
use Rattle.toml.specs.Parse.{parse_document}
use Rattle.toml_values.specs.Document.{table_of}

-- A text in UTF-8 that is a document.
pub is_document : (text : List ℕ) (ms : Members) → IsUtf8 text → parse_document text ≡ Some ms → Some ms ≡ table_of text
is_document text ms valid read = sym (ap (λ (t : Bool). if t then parse_document text else None) (is_utf8-from_IsUtf8 text valid) ∙ read)

-- A text that is none, or not in UTF-8.
pub no_document : (text : List ℕ) → (IsUtf8 text → parse_document text ≡ None) → None ≡ table_of text
no_document text none = by (is_utf8 text) refl
  where
    by : (t : Bool) → is_utf8 text ≡ t → None ≡ (if is_utf8 text then parse_document text else None)
    by true valid = sym (ap (λ (t : Bool). if t then parse_document text else None) valid ∙ none (IsUtf8-from_is_utf8 text valid))
    by false other = sym (ap (λ (t : Bool). if t then parse_document text else None) other)
