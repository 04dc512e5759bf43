-- The text of a version is read as this version, and no other text is.
use Rattle.std.proofs.Common.{◌≡◌, ℕ, List, [], ◌∷◌, ◌++◌, length, Bool, true, false, ◌==◌, ◌&&◌, if◌then◌else◌, Some, None, Result, Ok, Err}
use Rattle.std.proofs.Common.{refl, sym, ap, ◌∙◌, subst, append-nil, append_assoc, arith}
use Rattle.std.proofs.lemmas.Bool.{eqb-true}
use Rattle.std.specs.Fmt.{decimal}
use Rattle.semver.specs.Identifiers.{marked}
use Rattle.semver.specs.Parse.{Parts, version_parts}
use Rattle.semver.specs.declared.error.Error.{Error}
use Rattle.semver.proofs.Grammar.{version_parts-sound, version_parts-complete}
use Rattle.version_links.specs.Versions.{Fits, version_text, version_of, plain}
use Rattle.version_links.specs.declared.version.Version.{Version}
use Rattle.held_text.proofs.Readings.{some_same}

-- The parts of a version of three numbers.
abbrev parts : Version → Parts
parts v = (v.major, v.minor, v.patch, [], [])

-- The text of a version.
spelled : (v : Version) → decimal v.major ++ (46 ∷ (decimal v.minor ++ (46 ∷ (decimal v.patch ++ [])))) ≡ version_text v
spelled v = ap (λ (l : List ℕ). decimal v.major ++ (46 ∷ (decimal v.minor ++ (46 ∷ l)))) (append-nil (decimal v.patch))
    ∙ sym (append_assoc (decimal v.major) (46 ∷ decimal v.minor) (46 ∷ decimal v.patch))

-- It is read as this version.
pub version_back : (v : Version) → Fits v → version_of (version_text v) ≡ Some v
version_back v fits = ap version_of (sym (spelled v)) ∙ ap plain (version_parts-complete (parts v) (fits.major, fits.minor, fits.patch, refl, refl))

-- What is chosen where both tests hold.
chosen : (a b : Bool) (w v : Version) → (if a && b then Some w else None) ≡ Some v → (a ≡ true) × (b ≡ true) × (w ≡ v)
chosen true true w v is = (refl, refl, some_same w v is)
chosen true false w v is = cc is
chosen false b w v is = cc is

-- What has no length is empty.
empty : (l : List ℕ) → (length l == 0) ≡ true → l ≡ []
empty [] none = refl
empty (x ∷ l) none = let e = eqb-true (length (x ∷ l)) 0 none in absurd (omega arith)

-- Where a text is read as a version, it is its text.
pub version_is : (text : List ℕ) (v : Version) → version_of text ≡ Some v → (version_text v ≡ text) × Fits v
version_is text v is = by (version_parts text) refl is where
  by : (r : Result Parts Error) → version_parts text ≡ r → plain r ≡ Some v → (version_text v ≡ text) × Fits v
  by (Err e) read is = cc is
  by (Ok (a, b, d, pre, build)) read is =
      let c = chosen (length pre == 0) (length build == 0) (record { major = a; minor = b; patch = d }) v is in
      let sound = version_parts-sound text (a, b, d, pre, build) read in
      let bare : marked 45 pre ++ marked 43 build ≡ [] = rw (empty pre c.0, empty build c.1) refl in
      let whole : decimal a ++ (46 ∷ (decimal b ++ (46 ∷ (decimal d ++ [])))) ≡ text = rw bare at sound.0 in
      subst (λ (w : Version). (version_text w ≡ text) × Fits w) c.2
      (sym (spelled (record { major = a; minor = b; patch = d })) ∙ whole, record { major = sound.1.0; minor = sound.1.1; patch = sound.1.2 })
