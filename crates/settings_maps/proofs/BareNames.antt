-- Names of bare characters are text.
use Rattle.std.proofs.Common.{◌≡◌, ℕ, List, false}
use Rattle.std.specs.List.{list_all}
use Rattle.std.specs.Str.{IsUtf8}
use Rattle.std.proofs.lemmas.Bool.{and_parts, false_from_ne_true}
use Rattle.key_names.specs.Segment.{is_bare}
use Rattle.key_names.proofs.Ascii.{bare_text}
use Rattle.settings_maps.specs.TxName.{is_tx_name}

-- Bytes that are no text are no name of a transaction.
pub no_text : (bytes : List ℕ) → ¬ (IsUtf8 bytes) → is_tx_name bytes ≡ false
no_text bytes broken = false_from_ne_true (is_tx_name bytes) (λ name. broken (bare_text bytes ((and_parts _ (list_all is_bare bytes) name).1)))

pub ruleset bare_names = (no_text)
