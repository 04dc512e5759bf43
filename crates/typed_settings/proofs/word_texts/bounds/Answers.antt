use Rattle.std.proofs.Common.{◌≡◌, true≢false, Ok, ap, sym, ◌∙◌, subst, arith, FitsSigned, to_z, of_z}
use Rattle.std.proofs.lemmas.Int.{ints, to_z-of_z}
use Rattle.std.specs.Int.{w64}
use Rattle.std.proofs.lemmas.Fmt.{parse-signed_decimal}
use Rattle.typed_settings.specs.Word.{bounds_text}
use Rattle.typed_settings.proofs.WordParts.{cut_bounds}
use Rattle.typed_settings.proofs.word_texts.bounds.Goals as goal

pub returns-in_default-clause-none : goal.returns-in_default-clause-none
returns-in_default-clause-none c =
    λ _ low high is. rw c.in_default.is at (cut_bounds c.args.text.now c.split_once.result c.split_once.ensures.cases low high is)

pub returns-in_default-parse-clause-none : goal.returns-in_default-parse-clause-none
returns-in_default-parse-clause-none c =
    λ _ low high is.
    let parts = rw c.in-Some.is at (cut_bounds c.args.text.now c.split_once.result c.split_once.ensures.cases low high is) in
    c.in_default-parse.not-Ok low (parse-signed_decimal w64 low c.in-Some.first.now c.parse.result is.valid.low_fits is.valid.low_fits.sfits parts.0
    c.parse.ensures.value.0)

pub returns-in_default-parse-2-clause-none : goal.returns-in_default-parse-2-clause-none
returns-in_default-parse-2-clause-none c =
    λ _ low high is.
    let parts = rw c.in-Some.is at (cut_bounds c.args.text.now c.split_once.result c.split_once.ensures.cases low high is) in
    c.in_default-parse-2.not-Ok high (parse-signed_decimal w64 high c.in-Some.second.now c.parse-2.result is.valid.high_fits is.valid.high_fits.sfits parts.1
    c.parse-2.ensures.value.0)

pub returns-then-low-high-clause-none : goal.returns-then-low-high-clause-none
returns-then-low-high-clause-none c =
    λ _ low high is.
    let parts = rw c.in-Some.is at (cut_bounds c.args.text.now c.split_once.result c.split_once.ensures.cases low high is) in
    let first : c.parse.result ≡ Ok low = parse-signed_decimal w64 low c.in-Some.first.now c.parse.result is.valid.low_fits is.valid.low_fits.sfits parts.0
    c.parse.ensures.value.0 in
    let second : c.parse-2.result ≡ Ok high = parse-signed_decimal w64 high c.in-Some.second.now c.parse-2.result is.valid.high_fits is.valid.high_fits.sfits
    parts.1 c.parse-2.ensures.value.0 in
    let low_is : low ≡ c.in-Ok.low = cc in
    let high_is : high ≡ c.in-Ok-parse.high = cc in
    let low_fits : FitsSigned w64 c.in-Ok.low = subst (FitsSigned w64) low_is is.valid.low_fits in
    let high_fits : FitsSigned w64 c.in-Ok-parse.high = subst (FitsSigned w64) high_is is.valid.high_fits in
    absurd (omega (arith, ints, is.valid.ordered, c.if-low-high.true))

pub returns-then-not-branch-clause-none : goal.returns-then-not-branch-clause-none
returns-then-not-branch-clause-none c =
    λ _ low high is.
    let parts = rw c.in-Some.is at (cut_bounds c.args.text.now c.split_once.result c.split_once.ensures.cases low high is) in
    let first : c.parse.result ≡ Ok low = parse-signed_decimal w64 low c.in-Some.first.now c.parse.result is.valid.low_fits is.valid.low_fits.sfits parts.0
    c.parse.ensures.value.0 in
    let second : c.parse-2.result ≡ Ok high = parse-signed_decimal w64 high c.in-Some.second.now c.parse-2.result is.valid.high_fits is.valid.high_fits.sfits
    parts.1 c.parse-2.ensures.value.0 in
    let low_is : low ≡ c.in-Ok.low = cc in
    let high_is : high ≡ c.in-Ok-parse.high = cc in
    let low_same : low ≡ to_z w64 (of_z w64 c.in-Ok.low) = low_is ∙ sym (to_z-of_z w64 c.in-Ok.low (subst (FitsSigned w64) low_is is.valid.low_fits)) in
    let high_same : high ≡ to_z w64 (of_z w64 c.in-Ok-parse.high) = high_is
    ∙ sym (to_z-of_z w64 c.in-Ok-parse.high (subst (FitsSigned w64) high_is is.valid.high_fits)) in
    true≢false (sym (c.in_ok-is_bounds_text.ensures.1 (is.spelled ∙ ap (λ x. bounds_text x high) low_same ∙ ap (bounds_text _) high_same))
    ∙ c.if-not-branch.true)
