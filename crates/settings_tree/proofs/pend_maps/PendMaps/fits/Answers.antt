use Rattle.std.proofs.Common.{◌≡◌, None, sym, ◌∙◌, ap, subst}
use Rattle.std.specs.FinMap.{FinMap, get}
use Rattle.std.specs.Option.{option_copied}
use Rattle.key_names.specs.Order.{bytes_cmp, key_cmp}
use Rattle.json_trees.specs.declared.pending.Pending.{Pending}
use Rattle.settings_tree.proofs.PendingMaps.{fits_missing}
use Rattle.settings_tree.proofs.pend_maps.PendMaps.fits.Goals as goal

pub returns-in-None-clause-fits : goal.returns-in-None-clause-fits
returns-in-None-clause-fits c _ = fits_missing c.args.self.now c.args.tx.now c.args.key.now
    (subst (λ (m : FinMap bytes_cmp (FinMap key_cmp Pending)). None ≡ get m c.args.tx.now) c.self.view_is
    (sym (ap option_copied c.in-None.is) ∙ c.keys.ensures))
