use Rattle.toml.specs.View.{view}
use Rattle.release_file.specs.Checks.{transition}
use Rattle.release_file.proofs.Checking.{refuses_first}
use Rattle.release_file.proofs.transitions.transition_at.Goals as goal

pub returns-in-None-clause-refused : goal.returns-in-None-clause-refused
returns-in-None-clause-refused c =
    let none = rw c.in-None.is at c.in_ok-transition.ensures in
    refuses_first (transition (c.args.name.now, view c.args.value.now)) _ c.refused.result (λ holds. none holds.0 holds.1 holds.2 holds.3) c.refused.ensures
