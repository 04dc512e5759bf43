use Rattle.std.proofs.Common.{arith}
use Rattle.key_names.proofs.Digits.{over, digit_at}
use Rattle.api_http.proofs.fields.number.Goals as goal

pub returns-then-number-gt-MOST_BODY : goal.returns-then-number-gt-MOST_BODY
returns-then-number-gt-MOST_BODY c =
    let digits = c.args.digits.now in
    omega (
      arith,
      over 1048577 digits c.loop-digit.digit-index c.loop-digit.number c.loop-digit-test.true c.loop-digit.invariant.0
          (omega (arith, c.if-number-gt-MOST_BODY.true, c.from.ensures, digit_at digits c.loop-digit.digit-index c.requires c.loop-digit-test.true)),
    )
