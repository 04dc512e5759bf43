use Rattle.std.proofs.Common.{◌≡◌, true≢false, sym, ◌∙◌, subst, rules}
use Rattle.key_names.specs.Joined.{Joins}
use Rattle.typed_settings.specs.Pattern.{IsPlaceText, IsWithinLimits}
use Rattle.typed_settings.proofs.PlaceTexts.{one_joined}
use Rattle.typed_settings.proofs.reading.pattern_of.Goals as goal

pub returns-then-not-is_within_limits-clause-none : goal.returns-then-not-is_within_limits-clause-none
returns-then-not-is_within_limits-clause-none c =
    λ _ pattern is.
    let spelled : Joins IsPlaceText 46 c.args.text.now c.in-Some.places.items = search rules in
    let same : pattern ≡ c.deref.result.now = one_joined c.args.text.now pattern c.in-Some.places.items is.spells spelled ∙ sym c.deref.ensures.value in
    true≢false (sym (c.is_within_limits.ensures.1 (subst IsWithinLimits same is.limits)) ∙ c.if-not-is_within_limits.true)
