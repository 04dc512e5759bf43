use Rattle.toml.specs.View.{view}
use Rattle.release_file.specs.Checks.{migration}
use Rattle.release_file.proofs.Checking.{refuses_first}
use Rattle.release_file.proofs.migrations.named_at.Goals as goal

pub returns-in_default-clause-refused : goal.returns-in_default-clause-refused
returns-in_default-clause-refused c =
    let none = rw c.in_default.is at c.in_ok-work.ensures in
    refuses_first (migration (c.args.name.now, view c.args.value.now)) _ c.refused.result (λ holds. none holds.0 holds.1) c.refused.ensures
