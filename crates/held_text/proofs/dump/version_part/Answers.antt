use Rattle.std.proofs.Common.{◌≡◌, ◌∙◌, Some, None, string_bytes, refl, sym, ap}
use Rattle.version_links.specs.Versions.{version_of}
use Rattle.held_text.proofs.DumpReadings.{version_told, version_same, version_none}
use Rattle.held_text.proofs.dump.version_part.Goals as goal

pub returns-in-Some-2-clause-ok : goal.returns-in-Some-2-clause-ok
returns-in-Some-2-clause-ok c =
    let read : version_of (string_bytes c.in-Some.text) ≡ Some c.in-Some-2.version =
    ap version_of (sym c.as_str.ensures.value) ∙ sym c.in_ok-version.ensures ∙ c.in-Some-2.is in
    version_told _ (string_bytes c.in-Some.text) c.in-Some-2.version c.in-Some.ensures read

pub returns-in-Some-2-clause-exact : goal.returns-in-Some-2-clause-exact
returns-in-Some-2-clause-exact c =
    let read : version_of (string_bytes c.in-Some.text) ≡ Some c.in-Some-2.version =
    ap version_of (sym c.as_str.ensures.value) ∙ sym c.in_ok-version.ensures ∙ c.in-Some-2.is in
    version_same _ (string_bytes c.in-Some.text) c.in-Some-2.version c.in-Some.ensures read

pub returns-clause-err : goal.returns-clause-err
returns-clause-err c =
    let read : version_of (string_bytes c.in-Some.text) ≡ None = ap version_of (sym c.as_str.ensures.value) ∙ sym c.in_ok-version.ensures ∙ c.in-None.is in
    λ other. (refl, λ v fits told. version_none _ (string_bytes c.in-Some.text) v c.in-Some.ensures read fits (sym told))

pub returns-clause-exact : goal.returns-clause-exact
returns-clause-exact c =
    let read : version_of (string_bytes c.in-Some.text) ≡ None = ap version_of (sym c.as_str.ensures.value) ∙ sym c.in_ok-version.ensures ∙ c.in-None.is in
    λ v fits told. absurd (version_none _ (string_bytes c.in-Some.text) v c.in-Some.ensures read fits told)
