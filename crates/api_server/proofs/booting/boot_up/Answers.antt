use Rattle.outside.proofs.Told.{moves_stay, moves_then}
use Rattle.api_server.proofs.Replied.{handles_told}
use Rattle.api_server.proofs.Servings.{begun, not_begun}
use Rattle.api_server.proofs.booting.boot_up.Goals as goal

pub returns-then-boot-clause-boots : goal.returns-then-boot-clause-boots
returns-then-boot-clause-boots g c =
    moves_then
    (λ old between new handles turns.
    begun c.args.boot c.if-boot.true c.args.slice c.handle.result c.args.core.now c.handle.new.core c.turns.new.core _ _ _ _ _ _ _ _ _ _ old between new
    handles c.handle.ensures.cause turns)
    (handles_told _ _ _ _ _ _ _ _ c.handle.ensures.handles c.handle.ensures.other) c.turns.ensures.turns

pub returns-else-boot-clause-boots : goal.returns-else-boot-clause-boots
returns-else-boot-clause-boots g c = moves_stay (λ h. not_begun c.args.boot c.if-boot.false c.args.slice c.args.core.now _ _ _ _ h)
