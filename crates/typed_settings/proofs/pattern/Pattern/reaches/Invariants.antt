use Rattle.std.proofs.Common.{ℕ, ◌<◌, [], get_or}
use Rattle.typed_settings.specs.Pattern.{Fits}
use Rattle.typed_settings.specs.declared.place.Place.TheVariants.{Any}
use Rattle.typed_settings.proofs.pattern.Pattern.reaches.Given as goal

abbrev pub invariant-loop-i : goal.invariant-loop-i
invariant-loop-i l = (k : ℕ) → k < l.i → Fits (get_or l.self k Any) (get_or l.path k [])
