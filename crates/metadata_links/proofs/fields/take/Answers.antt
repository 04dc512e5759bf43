use Rattle.std.proofs.Common.{Some, None, unwrap_or, refl, ap}
use Rattle.key_names.specs.Order.{bytes_cmp, bytes_total, bytes_cmp-IsAntisymmetric}
use Rattle.settings_maps.proofs.BTreeMaps.{seen-get, seen-remove}
use Rattle.metadata_links.specs.Gathered.{no_fields}
use Rattle.metadata_links.proofs.fields.take.Goals as goal

pub returns-in-Some-clause-fields : goal.returns-in-Some-clause-fields
returns-in-Some-clause-fields c = ap (λ o. unwrap_or o no_fields) (seen-get {R = bytes_cmp} bytes_total c.args.found.now _ c.args.name.now
    (Some c.in-Some.fields) refl c.in-Some.ensures.value)

pub returns-in-Some-clause-gone : goal.returns-in-Some-clause-gone
returns-in-Some-clause-gone c = seen-remove {R = bytes_cmp} bytes_total bytes_cmp-IsAntisymmetric c.args.found.now c.remove.new.self _ c.args.name.now refl
    c.remove.ensures.updates

pub returns-in-None-clause-fields : goal.returns-in-None-clause-fields
returns-in-None-clause-fields c = ap (λ o. unwrap_or o no_fields) (seen-get {R = bytes_cmp} bytes_total c.args.found.now _ c.args.name.now None refl
    c.in-None.ensures.value)

pub returns-in-None-clause-gone : goal.returns-in-None-clause-gone
returns-in-None-clause-gone c = seen-remove {R = bytes_cmp} bytes_total bytes_cmp-IsAntisymmetric c.args.found.now c.remove.new.self _ c.args.name.now refl
    c.remove.ensures.updates
