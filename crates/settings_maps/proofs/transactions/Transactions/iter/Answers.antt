use Rattle.std.proofs.Common.{◌∙◌}
use Rattle.key_names.specs.Order.{bytes_total, bytes_cmp-IsAntisymmetric}
use Rattle.settings_maps.proofs.BTreeMaps.{seen-entries}
use Rattle.settings_maps.proofs.transactions.Transactions.iter.Goals as goal

pub returns : goal.returns
returns c = c.iter.ensures.rest ∙ seen-entries bytes_total bytes_cmp-IsAntisymmetric c.self.inside.map c.args.self.now c.self.view_is c.iter.ensures.ordered
