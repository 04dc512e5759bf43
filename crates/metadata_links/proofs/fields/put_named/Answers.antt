use Rattle.std.proofs.Common.{◌∙◌, ap}
use Rattle.std.specs.FinMap.{from_entries, insert, remove}
use Rattle.key_names.specs.Order.{bytes_cmp, bytes_total, bytes_cmp-IsAntisymmetric}
use Rattle.settings_maps.proofs.BTreeMaps.{seen-insert}
use Rattle.metadata_links.specs.Gathered.{with_field}
use Rattle.metadata_links.proofs.fields.put_named.Goals as goal

pub returns : goal.returns
returns c =
    seen-insert {R = bytes_cmp} bytes_total bytes_cmp-IsAntisymmetric c.take-fields.new.found c.insert.new.self _ c.args.name c.with_field.result
    c.take-fields.ensures.gone c.in_ok-insert.ensures.updates
    ∙ ap (insert (remove (from_entries {R = bytes_cmp} c.args.found.now.entries) c.args.name) c.args.name)
    (c.with_field.ensures ∙ ap (with_field c.args.one.now c.args.other.now c.args.field.now c.args.value) c.take-fields.ensures.fields)
