use Rattle.core_commands.proofs.verifying.verify_open.Goals as goal

pub returns-clause-verifies : goal.returns-clause-verifies
returns-clause-verifies g c = c.verify_by-lines.ensures.verifies c.args.store record { state = c.new-core.ensures.state; image = c.new-core.ensures.image }
