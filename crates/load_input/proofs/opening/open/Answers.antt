use Rattle.outside.proofs.Told.{moves_map}
use Rattle.load_input.proofs.opening.open.Goals as goal

pub returns-in-Ok-clause-over : goal.returns-in-Ok-clause-over
returns-in-Ok-clause-over g c =
    moves_map (λ old new opens. record { store = c.in-Ok.store; opens = opens; state = c.new.ensures.state; image = c.new.ensures.image }) c.in-Ok.ensures.opens
