use Rattle.std.proofs.Common.{◌≢◌, ℕ, arith}
use Rattle.release_file.proofs.Pairs.{in_decimal, no_decimal, has_major, has_minor, has_patch}
use Rattle.release_file.proofs.pair.first_version.Goals as goal

no_id : ◌≢◌ {A = ℕ} 46 95
no_id same = omega (arith, same)

pub returns-in_err-major : goal.returns-in_err-major
returns-in_err-major c = rw c.from_residual.ensures (λ version rest has. no_decimal c.args.mark version.major c.args.text.now _ c.requires
    c.in_err-major.ensures (has_major c.args.mark c.args.text.now version rest has))

pub returns-in_err-minor : goal.returns-in_err-minor
returns-in_err-minor c = rw c.from_residual-in_err-minor.ensures (λ version rest has.
    let one = in_decimal c.args.mark c.in_ok-major.major c.args.text.now c.in_ok-major.rest.now c.requires c.in_ok-major.ensures in
    no_decimal 46 version.minor c.in_ok-major.rest.now _ no_id c.in_err-minor.ensures
    (has_minor c.args.mark c.args.text.now version rest has c.in_ok-major.major c.in_ok-major.rest.now one))

pub returns-in_err-patch : goal.returns-in_err-patch
returns-in_err-patch c = rw c.from_residual-in_err-patch.ensures (λ version rest has.
    let one = in_decimal c.args.mark c.in_ok-major.major c.args.text.now c.in_ok-major.rest.now c.requires c.in_ok-major.ensures in
    let two = in_decimal 46 c.in_ok-minor.minor c.in_ok-major.rest.now c.in_ok-minor.rest.now no_id c.in_ok-minor.ensures in
    no_decimal 46 version.patch c.in_ok-minor.rest.now _ no_id c.in_err-patch.ensures
    (has_patch c.args.mark c.args.text.now version rest has c.in_ok-major.major c.in_ok-major.rest.now one c.in_ok-minor.minor c.in_ok-minor.rest.now two))
