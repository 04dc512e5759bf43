use Rattle.std.proofs.Common.{sym, ◌∙◌}
use Rattle.core_commands.specs.Asking.{requests}
use Rattle.core_commands.specs.Carried.{HoldsAll}
use Rattle.core_commands.specs.Telling.{Tells}
use Rattle.core_commands.proofs.Carryings.{carries_refusal}
use Rattle.core_commands.proofs.Causes.{error_is, quiet_cause}
use Rattle.core_commands.proofs.Told.{line_told}
use Rattle.core_commands.proofs.telling.carry_and_tell.Goals as goal

pub returns-in_err-core-clause-carries : goal.returns-in_err-core-clause-carries
returns-in_err-core-clause-carries g c =
    rw (error_is c.from_residual.result _ c.from_residual.ensures.1)
    (carries_refusal (requests c.args.asks.now) HoldsAll (Tells c.args.telling) _ _ _ _ c.in_err-core.field-0.0 c.in_err-core.ensures.carries)

pub returns-clause-carries : goal.returns-clause-carries
returns-clause-carries g c =
    line_told (requests c.args.asks.now) HoldsAll c.in_ok-core.core c.held.result.now c.args.telling c.last_line-line.result _ _ _ _
    (λ W p. (p.0 ∙ sym c.held.ensures, p.1)) c.last_line-line.ensures.ok c.last_line-line.ensures.memory c.in_ok-core.ensures.carries

pub returns-clause-cause : goal.returns-clause-cause
returns-clause-cause g c =
    quiet_cause c.last_line-line.result (g.D.Disk.faults c.args.disk.now) (g.D.Disk.faults c.carry.new.disk) c.in_ok-core.ensures.cause.kept
    c.last_line-line.ensures.memory
