-- Versions of three numbers, as texts.
use Rattle.std.specs.Prelude.{ℕ, ◌^◌, ◌<◌, List, [], ◌∷◌, ◌++◌, length, Option, Some, None, Result, Ok, Err, ◌==◌, ◌&&◌, if◌then◌else◌}
use Rattle.std.specs.Fmt.{decimal}
use Rattle.std.specs.Ordering.{nat_cmp}
use Rattle.std.specs.Cmp.Lexicographic.{slice_cmp}
use Rattle.std.specs.declared.cmp.Ordering.{Ordering}
use Rattle.semver.specs.Parse.{Parts, version_parts}
use Rattle.semver.specs.declared.error.Error.{Error}
use Rattle.version_links.specs.declared.version.Version.{Version}

-- The numbers of a version are below 2 ^ 64.
pub record Fits (version : Version) : Type 0 where
  pub major : version.major < 2 ^ 64
  pub minor : version.minor < 2 ^ 64
  pub patch : version.patch < 2 ^ 64

-- Versions are ordered by their major numbers, then by their minor ones, then by the third.
abbrev pub version_cmp : Version → Version → Ordering
version_cmp one other = slice_cmp nat_cmp (one.major ∷ one.minor ∷ one.patch ∷ []) (other.major ∷ other.minor ∷ other.patch ∷ [])

-- A version is printed as its three numbers in decimal, with dots between them.
abbrev pub version_text : Version → List ℕ
version_text version = decimal version.major ++ 46 ∷ decimal version.minor ++ 46 ∷ decimal version.patch

-- What semver read is a version of three numbers where it has neither a pre-release nor a build part.
abbrev pub plain : Result Parts Error → Option Version
plain (Ok parts) = if length parts.3 == 0 && length parts.4 == 0 then Some (record { major = parts.0; minor = parts.1; patch = parts.2 }) else None
plain (Err e) = None

-- The version that a text is, as semver reads it.
abbrev pub version_of : List ℕ → Option Version
version_of text = plain (version_parts text)
