-- The parts of an entry.
use Rattle.std.proofs.Common.{◌≡◌, ◌==◌, String, Vec, Global, List, [], ◌∷◌, true, length, refl, sym, ap, subst, arith}
use Rattle.std.proofs.lemmas.Bool.{eqb-true}
use Rattle.outside.specs.Spawner.{texts}
use Rattle.typed_settings.specs.declared.row.Row.{Row}
use Rattle.setting_generators.specs.Generators.{Path}
use Rattle.setting_generators.specs.Reading.{Entry, IsBad}
use Rattle.setting_generators.specs.Refused.{RefusesEntry}
use Rattle.toml_values.specs.Refused.{IsAt}
use Rattle.setting_generators.specs.declared.generators_error.GeneratorsKind.{GeneratorsKind}
use Rattle.toml_values.specs.declared.located_fault.LocatedFault.{LocatedFault}
use Rattle.toml_values.specs.declared.located_fault.LocatedFault.TheVariants.{Fault, Memory}

-- An entry that is none is refused.
pub entry_refused : (table : List Row) (keys : List Path) (entry : Entry) (kind : GeneratorsKind) (e : LocatedFault GeneratorsKind)
    → IsBad table keys entry kind
    → IsAt kind entry.0 e → RefusesEntry table keys entry e
entry_refused table keys entry kind Memory bad at = tt
entry_refused table keys entry kind (Fault k text) bad at = (subst (IsBad table keys entry) (sym at.0) bad, at.1)

no_length : {X : Type 0} (xs : List X) → length xs ≡ 0 → xs ≡ []
no_length [] none = refl
no_length (x ∷ xs) none = absurd (omega (arith, none))

-- No strings are no words.
pub no_texts : (words : Vec (String Global) Global) → true ≡ (words.len == 0) → texts words.items ≡ []
no_texts words none = ap texts (no_length words.items (omega (arith, eqb-true words.len 0 (sym none), words.ok)))
