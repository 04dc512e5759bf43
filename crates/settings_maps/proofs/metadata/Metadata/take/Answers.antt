use Rattle.key_names.specs.Order.{key_total, key_cmp-IsAntisymmetric, bytes_total, bytes_cmp-IsAntisymmetric}
use Rattle.settings_maps.proofs.BTreeMaps.{seen-lacks}
use Rattle.settings_maps.proofs.NestedMaps.{without_absent}
use Rattle.settings_maps.proofs.metadata.Metadata.take.Goals as goal

pub returns-else-contains_key-clause-gone : goal.returns-else-contains_key-clause-gone
returns-else-contains_key-clause-gone c = without_absent key_total key_cmp-IsAntisymmetric bytes_total bytes_cmp-IsAntisymmetric c.args.self.now c.args.key.now
    c.args.name.now
    (seen-lacks key_total c.self.inside.map c.args.self.now c.args.key.now c.contains_key.result c.self.view_is c.contains_key.ensures c.if-contains_key.false)
