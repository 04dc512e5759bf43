use Rattle.std.proofs.Common.{rules}
use Rattle.typed_settings.proofs.PlaceTexts.{no_place}
use Rattle.typed_settings.proofs.place_texts.place_of.Goals as goal

pub returns-in-Ok-clause-none : goal.returns-in-Ok-clause-none
returns-in-Ok-clause-none c =
    λ none. no_place c.args.text.now c.in-Ok.key c.eq.result (search rules) c.if-eq.false c.in-Ok.ensures.ok (c.plain_place.ensures.none none)
