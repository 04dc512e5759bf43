use Rattle.std.proofs.Common.{◌≡◌, ◌<◌, ◌∙◌, length, sym, ap, arith, rules}
use Rattle.disk_memory.specs.Pieces.{piece_at}
use Rattle.disk_memory.proofs.PieceLemmas.{over_left, over_before, over_next, whole_if_empty}
use Rattle.disk_memory.proofs.incoming.Incoming.pass_over.Goals as goal

pub loop-self-preserved : goal.loop-self-preserved
loop-self-preserved c =
    let now = c.loop-self.self in
    let here : now.piece < length now.pieces.items = omega arith in
    let none : length c.rest.result.now ≡ 0 = search rules in
    let whole = whole_if_empty now.offset (piece_at now.pieces.items now.piece) c.rest.ensures.within (ap length (sym c.rest.ensures.rest) ∙ none) in
    let so_far = c.loop-self.invariant in
    record {
      heard = over_before now.pieces.items now.piece now.offset here whole ∙ so_far.heard;
      left = over_left now.pieces.items now.piece now.offset here whole ∙ so_far.left;
      next = over_next now.pieces.items now.piece now.offset here whole ∙ so_far.next;
      pieces = so_far.pieces;
    }
