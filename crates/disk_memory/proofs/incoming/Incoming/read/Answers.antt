use Rattle.std.proofs.Common.{◌≤◌, ◌+◌, ◌++◌, List, ℕ, length, take, sym, ◌∙◌, ap, arith}
use Rattle.std.proofs.lemmas.List.{length-drop}
use Rattle.disk_memory.specs.Pieces.{piece_at, from_place}
use Rattle.disk_memory.proofs.PieceLemmas.{front_of_room, room_filled, next_is, on_left, on_before, next_end}
use Rattle.disk_memory.proofs.incoming.Incoming.read.Goals as goal

pub returns-clause-count : goal.returns-clause-count
returns-clause-count c =
    let at = c.pass_over.new.self in
    room_filled c.rest-rest.result.now c.args.room.now c.copy_from_slice.new.self c.min-count.result c.min-count.ensures c.copy_from_slice.ensures.after _
    (sym c.pass_over.ensures.next ∙ next_is at.pieces.items at.piece at.offset c.pass_over.ensures.there ∙ sym c.rest-rest.ensures.rest)

pub returns-clause-left : goal.returns-clause-left
returns-clause-left c =
    let at = c.pass_over.new.self in
    let count = c.min-count.result in
    let fits : at.offset + count ≤ length (piece_at at.pieces.items at.piece) =
    omega (arith, length-drop at.offset (piece_at at.pieces.items at.piece), ap length c.rest-rest.ensures.rest) in
    let front = front_of_room c.rest-rest.result.now c.args.room.now c.copy_from_slice.new.self count c.min-count.ensures c.copy_from_slice.ensures.after in
    sym c.pass_over.ensures.left ∙ on_left at.pieces.items at.piece at.offset count fits
    ∙ ap (λ (l : List ℕ). l ++ from_place at.pieces.items at.piece (at.offset + count)) (ap (take count) (sym c.rest-rest.ensures.rest) ∙ sym front)

pub returns-clause-heard : goal.returns-clause-heard
returns-clause-heard c =
    let at = c.pass_over.new.self in
    let count = c.min-count.result in
    let fits : at.offset + count ≤ length (piece_at at.pieces.items at.piece) =
    omega (arith, length-drop at.offset (piece_at at.pieces.items at.piece), ap length c.rest-rest.ensures.rest) in
    let front = front_of_room c.rest-rest.result.now c.args.room.now c.copy_from_slice.new.self count c.min-count.ensures c.copy_from_slice.ensures.after in
    on_before at.pieces.items at.piece at.offset count fits
    ∙ (λ i. c.pass_over.ensures.heard i ++ (ap (take count) (sym c.rest-rest.ensures.rest) ∙ sym front) i)

pub returns-clause-end : goal.returns-clause-end
returns-clause-end c =
    let at = c.pass_over.new.self in
    let both = next_end at.pieces.items at.piece at.offset c.rest-rest.ensures.within in
    (λ e. sym c.pass_over.ensures.left ∙ both.0 (c.pass_over.ensures.next ∙ e), λ e. sym c.pass_over.ensures.next ∙ both.1 (c.pass_over.ensures.left ∙ e))
