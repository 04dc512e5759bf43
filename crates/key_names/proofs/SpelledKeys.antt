-- What a text spells is a key, and a key is spelled by its printed text.
use Rattle.std.proofs.Common.{ℕ, List}
use Rattle.std.specs.Prelude.{IsTrue}
use Rattle.key_names.specs.Key.{is_key, printed}
use Rattle.key_names.specs.Spelling.{SpellsKey}
use Rattle.key_names.proofs.KeyLimits.{IsKey-from, is_key-from, Fits-from, fits-from}
use Rattle.key_names.proofs.Spellings.{Spells-printed, Spells_some, Spells_valid}

-- A text that spells something spells a key.
pub spelled_key : (text : List ℕ) (key : List (List ℕ)) → SpellsKey text key → IsTrue (is_key key)
spelled_key text key spells = is_key-from key (record {
  some = Spells_some key text spells.spells;
  valid = Spells_valid key text spells.spells;
  fits =
      Fits-from key spells.within;
})

-- A key's printed text spells it.
pub printed_key : (key : List (List ℕ)) → IsTrue (is_key key) → SpellsKey (printed key) key
printed_key key valid = let k = IsKey-from key valid in record { spells = Spells-printed key k.some k.valid; within = fits-from key k.fits }
