use Rattle.core_commands.proofs.committing.commit_pairs.Goals as goal

pub returns-clause-commits : goal.returns-clause-commits
returns-clause-commits g c = c.commit_by-line.ensures.commits c.args.store record { state = c.new-core.ensures.state; image = c.new-core.ensures.image }
