use Rattle.std.proofs.Common.{length}
use Rattle.typed_settings.specs.Pattern.{Remains}
use Rattle.typed_settings.proofs.place_texts.places_of.Given as goal

abbrev pub invariant-loop-places : goal.invariant-loop-places
invariant-loop-places l = Remains l.text l.places.items l.rest

abbrev pub decreases-loop-places : goal.decreases-loop-places
decreases-loop-places l = length l.rest
