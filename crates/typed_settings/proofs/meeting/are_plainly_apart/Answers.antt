use Rattle.std.proofs.Common.{◌≡◌, Bor, map, subst}
use Rattle.std.proofs.lemmas.Iterator.{YieldsList-from_slice}
use Rattle.std.proofs.lemmas.Iterator.Consumers.{map_from_collect}
use Rattle.std.proofs.lemmas.Result.{IfOk-at_ok}
use Rattle.typed_settings.specs.declared.row.Row.{Row}
use Rattle.typed_settings.proofs.Plainly.{Ascend, apart_sorted}
use Rattle.typed_settings.proofs.meeting.are_plainly_apart.Goals as goal

pub returns : goal.returns
returns c =
    let collected : map (λ (b : Bor Row). b.now) c.in_ok-sorted.sorted.items ≡ c.args.rows.now =
    IfOk-at_ok _ c.in_ok-sorted.was (map_from_collect _ c.collect.ensures.ran (YieldsList-from_slice c.args.rows.now cc)) in
    λ told. apart_sorted c.args.rows.now c.in_ok-sorted.sorted.items c.sort_by.new.self.items collected c.sort_by.ensures.permutation
    (subst Ascend c.deref.ensures.value (c.ascend_plainly.ensures.0 told))
