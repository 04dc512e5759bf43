use Rattle.std.proofs.Common.{ap, ◌∙◌}
use Rattle.std.specs.Str.{bytes_eq}
use Rattle.fs_datastore.proofs.PlaceFiles.{no_other_top}
use Rattle.fs_datastore.proofs.place.top_of.Goals as goal

pub returns-else-eq-3 : goal.returns-else-eq-3
returns-else-eq-3 c =
    no_other_top c.args.name.now c.eq.result c.eq-else-eq.result c.eq-else-eq-2.result
    (c.eq.ensures ∙ ap (bytes_eq c.args.name.now) c.as_slice.ensures) c.if-eq.false
    (c.eq-else-eq.ensures ∙ ap (bytes_eq c.args.name.now) c.as_slice-else-eq.ensures) c.if-eq-2.false
    (c.eq-else-eq-2.ensures ∙ ap (bytes_eq c.args.name.now) c.as_slice-else-eq-2.ensures) c.if-eq-3.false
