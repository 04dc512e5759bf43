-- Maps by path are finite maps.
use Rattle.std.specs.FinMap.{IsAntisymmetric, nat_cmp-IsAntisymmetric, slice_cmp-IsAntisymmetric}
use Rattle.outside.specs.Names.{path_cmp}
use Rattle.outside.specs.Order.{path_total}
use Rattle.settings_maps.proofs.BTreeMaps.{tree_maps}

-- Paths that tie are one.
pub path_cmp-IsAntisymmetric : IsAntisymmetric path_cmp
path_cmp-IsAntisymmetric = slice_cmp-IsAntisymmetric (slice_cmp-IsAntisymmetric nat_cmp-IsAntisymmetric)

pub ruleset path_maps = (tree_maps, path_total, path_cmp-IsAntisymmetric)
