-- How faults of user data and of generators are reported.
use Rattle.std.proofs.Common.{◌≡◌, ◌≢◌, inl, inr, ℕ, List, Some, Err, refl, sym, subst}
use Rattle.typed_settings.specs.declared.row.Row.{Row}
use Rattle.user_data.specs.Pairs.{pairs_of}
use Rattle.user_data.specs.declared.user_data_error.UserDataError.{UserDataError}
use Rattle.user_data.specs.declared.user_data_error.UserDataKind.TheVariants as kind
use Rattle.setting_generators.specs.Reading.{IsFault}
use Rattle.setting_generators.specs.declared.generators_error.GeneratorsError.{GeneratorsError}
use Rattle.setting_generators.specs.declared.generators_error.GeneratorsKind.TheVariants as fault
use Rattle.command_outcome.specs.declared.refusal.Refusal.{Refusal}
use Rattle.settings_cmd.specs.Generators.{TellsOfFault, TellsOfText, IsOfGenerators}
use Rattle.settings_cmd.specs.UserData.{TellsOfData, TellsOfDataFault, IsOfData}

-- ---- user data

-- A fault of a text is reported as its fault.
pub data_fault_told : (text : List ℕ) (error : UserDataError) (refusal : Refusal) → TellsOfDataFault error refusal
    → (error.kind ≢ kind.Memory → pairs_of text ≡ Err error)
    → TellsOfData (Some text) (Err refusal)
data_fault_told text error refusal (inl is) fault = subst (λ (r : Refusal). TellsOfData (Some text) (Err r)) (sym is) tt
data_fault_told text error refusal (inr told) fault =
    subst (λ (r : Refusal). TellsOfData (Some text) (Err r)) (sym told.1)
    (inr (record { text = text; there = refl; error = error; fault = fault told.0; word_is = refl; at_is = refl }))

pub data_fault_of : (error : UserDataError) (refusal : Refusal) → TellsOfDataFault error refusal → IsOfData refusal
data_fault_of error refusal (inl is) = subst IsOfData (sym is) tt
data_fault_of error refusal (inr told) = subst IsOfData (sym told.1) tt

-- ---- generators

pub generators_fault_told : (table : List Row) (text : List ℕ) (error : GeneratorsError) (refusal : Refusal) → TellsOfFault error refusal
    → (error.kind ≢ fault.Memory → IsFault table text error.kind error.at) → TellsOfText table text refusal
generators_fault_told table text error refusal (inl is) fault = inl is
generators_fault_told table text error refusal (inr told) fault = inr (error.kind, error.at, fault told.0, told.1)

pub generators_fault_of : (error : GeneratorsError) (refusal : Refusal) → TellsOfFault error refusal → IsOfGenerators refusal
generators_fault_of error refusal (inl is) = subst IsOfGenerators (sym is) tt
generators_fault_of error refusal (inr told) = subst IsOfGenerators (sym told.1) tt
