use Rattle.outside.proofs.Told.{moves_stay, moves_map}
use Rattle.api_server.proofs.Servings.{driven, not_driven}
use Rattle.api_server.proofs.driving.drive.Goals as goal

pub returns-then-fine-clause-ends : goal.returns-then-fine-clause-ends
returns-then-fine-clause-ends g c =
    moves_map (λ old new turns. driven c.args.fine c.if-fine.true c.args.core.now c.turns.new.core _ _ _ _ _ _ old new turns) c.turns.ensures.turns

pub returns-else-fine-clause-ends : goal.returns-else-fine-clause-ends
returns-else-fine-clause-ends g c = moves_stay (λ h. not_driven c.args.fine c.if-fine.false c.args.core.now _ _ _ _ h)
