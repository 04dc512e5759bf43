use Rattle.typed_settings.proofs.Searches.{back_ordered, back_among, back_has}
use Rattle.typed_settings.proofs.look_up.row_for.Goals as goal

pub loop-rest-preserved : goal.loop-rest-preserved
loop-rest-preserved c =
    let n = c.alike_len.result in
    let rest = c.loop-rest.rest.now in
    rw c.split_at.ensures.back (record {
      ordered = back_ordered rest n c.loop-rest.invariant.ordered;
      among = λ row in_back. c.loop-rest.invariant.among row (back_among rest n row in_back);
      has = λ row has. back_has rest c.args.key.now n row c.alike_len.ensures.within (rw c.split_at.ensures.front at (c.row_among.ensures.none c.in_default.is))
          (c.loop-rest.invariant.has row has);
    })
