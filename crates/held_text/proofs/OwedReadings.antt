-- How the owed keys are read.
use Rattle.std.proofs.Common.{◌≡◌, true, false, is_some, Err, ap}
use Rattle.serde_json.specs.Data.{Data}
use Rattle.serde_json.specs.Find.{as_array}
use Rattle.held_text.specs.HeldText.{keys_data, owed_data}
use Rattle.held_text.specs.HeldRules.{Reads}
use Rattle.settings_tree.specs.Owed.{IsKeyList, IsOwed}
use Rattle.settings_tree.specs.declared.entry.Owed.{Owed}
use Rattle.settings_tree.specs.declared.entry.Owed.TheVariants.{All, Keys}
use Rattle.held_text.specs.declared.held_error.HeldError.{HeldError}
use Rattle.held_text.specs.declared.held_error.HeldError.TheVariants.{Memory}

-- It is refused only for being out of memory.
pub owed_refused : (d : Data) (e : HeldError) → is_some (as_array d) ≡ true → Reads IsKeyList keys_data d (Err e) → (owed : Owed) → IsOwed owed
    → d ≡ owed_data owed → e ≡ Memory
owed_refused d e listed reads All valid is = let none : is_some (as_array d) ≡ false = ap (λ (e : Data). is_some (as_array e)) is in absurd (cc (listed, none))
owed_refused d e listed reads (Keys others) valid is = reads.finds others valid is
