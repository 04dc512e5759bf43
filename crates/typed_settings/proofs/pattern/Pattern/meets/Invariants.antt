use Rattle.std.proofs.Common.{ℕ, ◌<◌, get_or}
use Rattle.typed_settings.specs.Pattern.{Agree}
use Rattle.typed_settings.specs.declared.place.Place.TheVariants.{Any}
use Rattle.typed_settings.proofs.pattern.Pattern.meets.Given as goal

abbrev pub invariant-loop-i : goal.invariant-loop-i
invariant-loop-i l = (k : ℕ) → k < l.i → Agree (get_or l.self k Any) (get_or l.other k Any)
