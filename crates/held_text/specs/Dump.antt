-- A dump: the held text of a store and its version, as one JSON text.
use Rattle.std.specs.Prelude.{◌≡◌, ℕ, List, Option, Some, None, IsSome, MatchResult, Result, codes}
use Rattle.serde_json.specs.Data.{Data, string, object, Members, no_members, member}
use Rattle.serde_json.specs.Written.{compact_text}
use Rattle.json_trees.specs.Json.{data_of}
use Rattle.settings_tree.specs.declared.held.Held.{Held}
use Rattle.version_links.specs.declared.version.Version.{Version}
use Rattle.version_links.specs.Versions.{Fits, version_text}
use Rattle.held_text.specs.HeldText.{held_data}
use Rattle.held_text.specs.HeldRules.{IsHeld}
use Rattle.held_text.specs.declared.dump.Dump.{Dump}
use Rattle.held_text.specs.declared.dump_error.DumpError.{DumpError}
use Rattle.held_text.specs.declared.dump_error.DumpError.TheVariants.{NotJson, BadHeld, BadVersion, Memory}

-- The JSON value of a version is its text.
abbrev pub version_data : Version → Data
version_data version = string (version_text version)

-- The member `version`, where there is one.
abbrev pub version_members : Option Data → Members
version_members None = no_members
version_members (Some d) = member (codes "version") d no_members

-- An object with the member `held`, with the member `version` where there is one, and with no others.
abbrev pub parts_data : Data → Option Data → Data
parts_data held version = object (member (codes "held") held (version_members version))

-- A dump has both members.
abbrev pub dump_members : Version → Held → Members
dump_members version held = member (codes "held") (held_data held) (version_members (Some (version_data version)))

-- The JSON value of a dump.
abbrev pub dump_data : Version → Held → Data
dump_data version held = object (dump_members version held)

-- The text of a dump is the compact text of this value.
abbrev pub dump_text : Version → Held → List ℕ
dump_text version held = compact_text (dump_data version held)

-- The text is JSON, in whatever spelling, of the dump of this version and of this, which a store may hold.
pub record SpellsDump (text : List ℕ) (version : Version) (held : Held) : Type 0 where
  pub fits : Fits version
  pub valid : IsHeld held
  pub value_is : data_of text ≡ Some (dump_data version held)

-- The text is JSON, in whatever spelling, of an object with the member `held` for this, which a store may hold, with this member `version` if any, and
-- with no others.
pub record SpellsParts (text : List ℕ) (held : Held) (version : Option Data) : Type 0 where
  pub valid : IsHeld held
  pub value_is : data_of text ≡ Some (parts_data (held_data held) version)

-- Why the text is no dump: it is no JSON; or it is, but has no member `held` for what a store may hold, or has members that no dump has; or it has such
-- a member, but no member `version` for a version.
abbrev pub IsNoDump : DumpError → List ℕ → Type 0
IsNoDump NotJson text = data_of text ≡ None
IsNoDump BadHeld text = IsSome (data_of text) × ((held : Held) (version : Option Data) → SpellsParts text held version → ⊥)
IsNoDump BadVersion text = (held : Held) × (version : Option Data) × SpellsParts text held version
    × ((v : Version) → Fits v → Some (version_data v) ≡ version → ⊥)
IsNoDump Memory text = Unit {0}

-- The answer is this dump, unless it ran out of memory.
abbrev pub IsDumpRead : Result Dump DumpError → Version → Held → Type 0
IsDumpRead result version held = MatchResult result (λ dump. (dump.version ≡ version) × (dump.held ≡ held)) (λ e. e ≡ Memory)
