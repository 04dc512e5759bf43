use Rattle.std.proofs.Common.{◌≡◌, ℕ, List, Bor, map, subst}
use Rattle.std.proofs.lemmas.Iterator.{YieldsList-from_slice}
use Rattle.std.proofs.lemmas.Iterator.Consumers.{map_from_collect}
use Rattle.std.proofs.lemmas.Result.{IfOk-at_ok}
use Rattle.metadata_links.specs.declared.file_row.FileRow.{FileRow}
use Rattle.metadata_links.proofs.Clashes.{Rise, apart_sorted}
use Rattle.metadata_links.proofs.paths.are_apart.Goals as goal

pub returns : goal.returns
returns c =
    let collected : map (λ (b : Bor (List ℕ × FileRow)). b.now) c.in_ok-sorted.sorted.items ≡ c.args.files.now =
    IfOk-at_ok _ c.in_ok-sorted.was (map_from_collect _ c.collect.ensures.ran (YieldsList-from_slice c.args.files.now cc)) in
    λ told clash. apart_sorted clash c.args.files.now c.in_ok-sorted.sorted.items c.sort_by.new.self.items collected c.sort_by.ensures.permutation
    (subst Rise c.deref.ensures.value (c.rise_apart.ensures.0 told))
