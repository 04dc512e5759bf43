-- Paths of files that are in each other's way; for private clauses.
use Rattle.std.specs.Prelude.{◌&&◌, Bool, not}
use Rattle.std.specs.Ordering.{is_lt}
use Rattle.outside.specs.Names.{Names, path_cmp, is_below}
use Rattle.metadata_links.specs.Faults.{is_same, is_nested}
use Rattle.metadata_links.specs.declared.file_row.FileRow.{FileRow}
use Rattle.metadata_links.specs.declared.paths.Clash.{Clash}
use Rattle.metadata_links.specs.declared.paths.Clash.TheVariants.{Same, Nested}

-- Whether two files' paths clash in this way.
abbrev pub clash_in : Clash → FileRow → FileRow → Bool
clash_in Same one other = is_same one other
clash_in Nested one other = is_nested one other

-- The first path is before the second, which isn't below it.
abbrev pub is_apart_before : Names → Names → Bool
is_apart_before one other = is_lt (path_cmp one other) && not (is_below one other)
