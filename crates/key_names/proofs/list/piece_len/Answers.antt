use Rattle.std.proofs.Common.{sym, ◌∙◌}
use Rattle.key_names.proofs.Pieces.{IsPiece-at}
use Rattle.key_names.proofs.list.piece_len.Goals as goal

pub returns-then-b-eq44-clause-piece : goal.returns-then-b-eq44-clause-piece
returns-then-b-eq44-clause-piece c =
    IsPiece-at c.args.text.now c.loop-i.i c.loop-i-test.true c.if-b-eq44.true (sym c.loop-i.invariant.state ∙ c.if-closed.true) c.loop-i.invariant.commas
