use Rattle.std.proofs.Common.{◌∙◌, sym}
use Rattle.outside.proofs.Told.{moves_stay}
use Rattle.api_core.proofs.Turnings.{no_turns}
use Rattle.api_core.proofs.serving.Core.turns.Goals as goal

pub returns-else-is_running-clause-turns : goal.returns-else-is_running-clause-turns
returns-else-is_running-clause-turns g c =
    moves_stay (λ h. no_turns c.args.self.now (sym c.is_running.ensures ∙ c.if-is_running.false) c.args.slice _ h)
