use Rattle.std.proofs.Common.{rules, arith, ◌≡◌, ◌≤◌, ◌^◌, ◌+◌, ◌*◌, None, get_or}
use Rattle.std.specs.Char.{digit_value}
use Rattle.key_names.proofs.Digits.{over, digit_at}
use Rattle.host_client.proofs.Checked.{not_below, none_matches}
use Rattle.host_client.proofs.length.number_of.Goals as goal

pub returns-in_err-tens : goal.returns-in_err-tens
returns-in_err-tens c =
    let digits = c.args.digits.now in
    let i = c.loop-digit.digit-index in
    let n = c.loop-digit.number in
    let none : c.checked_mul.result ≡ None = search rules in
    let big : 2 ^ 64 ≤ n * 10 = not_below c.checked_mul.result (n * 10) (2 ^ 64) (n * 10) none c.checked_mul.ensures in
    let more : 2 ^ 64 ≤ n * 10 + digit_value (get_or digits i 0) = omega arith in
    none_matches c.from_residual.result _ _ c.from_residual.ensures (over (2 ^ 64) digits i n c.loop-digit-test.true c.loop-digit.invariant more)

pub returns-in_err-number : goal.returns-in_err-number
returns-in_err-number c =
    let digits = c.args.digits.now in
    let i = c.loop-digit.digit-index in
    let n = c.loop-digit.number in
    let tens = c.in_ok-tens.tens in
    let unit = c.from.result in
    let tenfold : tens ≡ n * 10 = search rules in
    let none : c.checked_add.result ≡ None = search rules in
    let big : 2 ^ 64 ≤ tens + unit = not_below c.checked_add.result (tens + unit) (2 ^ 64) (tens + unit) none c.checked_add.ensures in
    let more : 2 ^ 64 ≤ n * 10 + digit_value (get_or digits i 0) = omega
    (arith, big, tenfold, c.from.ensures, digit_at digits i c.requires c.loop-digit-test.true) in
    none_matches c.from_residual-in_err-number.result _ _ c.from_residual-in_err-number.ensures
    (over (2 ^ 64) digits i n c.loop-digit-test.true c.loop-digit.invariant more)
