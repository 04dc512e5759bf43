use Rattle.std.proofs.Common.{◌≡◌, Some, sym, ◌∙◌, ap, is_some}
use Rattle.std.specs.Option.{option_copied_mut}
use Rattle.std.specs.BTreeMap as tree
use Rattle.std.proofs.lemmas.Result.{on_err_weaker}
use Rattle.key_names.specs.Order.{key_cmp, key_total, key_cmp-IsAntisymmetric}
use Rattle.settings_maps.proofs.BTreeMaps.{seen-kept}
use Rattle.settings_maps.proofs.metadata.Metadata.put_in.Goals as goal

pub returns-clause-err : goal.returns-clause-err
returns-clause-err c =
    let has : tree.get key_cmp c.self.inside.map c.args.key.now ≡ Some c.unwrap.result.now = sym c.get_mut.ensures.value
    ∙ ap option_copied_mut c.unwrap.ensures in
    on_err_weaker c.put.result (λ same. seen-kept key_total key_cmp-IsAntisymmetric c.self.inside.map (c.get_mut.follows.lender c.put.new.self) c.args.self.now
    c.args.key.now c.put.new.self c.unwrap.result.now c.self.view_is has same
    ((c.get_mut.follows.holds c.put.new.self).3 (ap is_some has))) c.put.ensures.err
