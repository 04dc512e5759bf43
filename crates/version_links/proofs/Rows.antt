-- Worked texts of versions and names.
use Rattle.std.proofs.Common.{◌≡◌, codes, Some, None, refl}
use Rattle.semver.proofs.OnLiterals.{semver_on_literals}
use Rattle.version_links.specs.Versions.{version_of}

plain_one : version_of (codes "1.5.2") ≡ Some (record { major = 1; minor = 5; patch = 2 })
unfolding semver_on_literals
plain_one = refl

pre_release : version_of (codes "1.5.2-rc1") ≡ None
unfolding semver_on_literals
pre_release = refl

build_part : version_of (codes "1.5.2+b") ≡ None
unfolding semver_on_literals
build_part = refl

leading_zero : version_of (codes "01.5.2") ≡ None
unfolding semver_on_literals
leading_zero = refl

two_numbers : version_of (codes "1.5") ≡ None
unfolding semver_on_literals
two_numbers = refl

too_large : version_of (codes "18446744073709551616.0.0") ≡ None
unfolding semver_on_literals
too_large = refl
