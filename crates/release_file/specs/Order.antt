-- Versions before and upto another, in the order of their numbers.
use Rattle.std.specs.Prelude.{Bool}
use Rattle.std.specs.Ordering.{is_lt, is_le}
use Rattle.version_links.specs.declared.version.Version.{Version}
use Rattle.version_links.specs.Versions.{version_cmp}

-- The first version is below the second.
abbrev pub is_before : Version → Version → Bool
is_before one other = is_lt (version_cmp one other)

-- The first version is not beyond the second.
abbrev pub is_upto : Version → Version → Bool
is_upto one other = is_le (version_cmp one other)
