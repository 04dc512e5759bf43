-- A text is a release, or has one fault.
use Rattle.std.proofs.Common.{◌≡◌, ℕ, List, Option, Some, None, sym, ◌∙◌, ap, subst}
use Rattle.toml.specs.Data.{Members}
use Rattle.release_file.specs.Checks.{checks, fault_of, name_of}
use Rattle.release_file.specs.Reading.{Spells, HasFault, IsFault}
use Rattle.release_file.specs.declared.release.Release.{Release}
use Rattle.release_file.specs.declared.release_error.ReleaseKind.{ReleaseKind}
use Rattle.release_file.proofs.Checking.{none_fails, one_fails}

-- A release has no fault.
pub never_both : (text : List ℕ) (release : Release) (kind : ReleaseKind) (at : List ℕ) → Spells text release → IsFault text kind at → ⊥
never_both text release kind at spells fault =
    let there : HasFault (Some spells.document) kind at = subst (λ (o : Option Members). HasFault o kind at) spells.read fault in
    none_fails (checks spells.document) there.0 spells.hold there.1

-- Two faults of a text are one.
pub one_fault : (found : Option Members) (kind other : ReleaseKind) (at also : List ℕ) → HasFault found kind at → HasFault found other also
    → (kind ≡ other) × (at ≡ also)
one_fault None kind other at also one two = (one.0 ∙ sym two.0, one.1 ∙ sym two.1)
one_fault (Some document) kind other at also one two =
    let same = one_fails (checks document) one.0 two.0 one.1 two.1 in
    (one.2 ∙ ap fault_of same ∙ sym two.2, one.3 ∙ ap name_of same ∙ sym two.3)
