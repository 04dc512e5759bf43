use Rattle.std.proofs.Common.{◌≡◌, true≢false, sym, ◌∙◌, subst, rules}
use Rattle.typed_settings.specs.Pattern.{SpellsPattern}
use Rattle.typed_settings.specs.Row.{IsOfSettings}
use Rattle.typed_settings.proofs.PlaceTexts.{one_joined}
use Rattle.typed_settings.proofs.reading.row_of.Goals as goal

pub returns-then-not-is_of_settings-clause-none : goal.returns-then-not-is_of_settings-clause-none
returns-then-not-is_of_settings-clause-none c =
    λ _ row is.
    let spelled : SpellsPattern c.args.pattern.now c.in-Some.read_pattern = search rules in
    let same : row.pattern ≡ c.as_slice.result.now = one_joined c.args.pattern.now row.pattern c.in-Some.read_pattern is.pattern.spells spelled.spells
    ∙ sym c.as_slice.ensures in
    true≢false (sym (c.is_of_settings.ensures.1 (subst IsOfSettings same is.of_settings)) ∙ c.if-not-is_of_settings.true)
