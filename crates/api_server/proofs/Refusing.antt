-- What a request that is given up tells.
use Rattle.std.proofs.Common.{subst}
use Rattle.store_open.specs.Laws.{IsRefusal}
use Rattle.store_open.specs.declared.open_error.OpenError.{OpenError}
use Rattle.store_open.specs.declared.open_error.OpenError.TheVariants as error
use Rattle.api_server.specs.Handled.{GivesUp, IsNotOpened}
use Rattle.api_server.specs.declared.handled.Handled.{Handled}

-- It tells only of an opening that was refused.
pub refusal_told : (e : OpenError) (handled : Handled) → GivesUp e handled → IsNotOpened handled → IsRefusal e
refusal_told error.Failed handled gives is = absurd (subst IsNotOpened gives is)
refusal_told error.Memory handled gives is = absurd (subst IsNotOpened gives is)
refusal_told error.NoStore handled gives is = tt
refusal_told (error.BadLink path) handled gives is = tt
refusal_told (error.BadJournal path) handled gives is = tt
refusal_told (error.Damaged path) handled gives is = tt
refusal_told (error.OldFormat directory) handled gives is = tt
refusal_told (error.BadImage file kind at) handled gives is = tt
refusal_told (error.IllTyped key) handled gives is = tt
