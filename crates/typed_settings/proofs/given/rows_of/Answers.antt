use Rattle.std.proofs.Common.{sym, subst, rules}
use Rattle.typed_settings.specs.Row.{SpellsRow, AreSpelled}
use Rattle.typed_settings.proofs.OneTable.{spelled_more}
use Rattle.typed_settings.proofs.given.rows_of.Goals as goal

pub loop-index-preserved : goal.loop-index-preserved
loop-index-preserved c =
    let spelled : SpellsRow c.index-texts-index.result c.in-Some.row = search rules in
    subst (AreSpelled _) (sym c.in_ok-push-in-Some.ensures.items)
    (spelled_more c.args.texts.now c.loop-index.rows.items c.loop-index.index c.index-texts-index.result c.in-Some.row c.loop-index-test.true
    c.index-texts-index.is c.loop-index.invariant spelled)
