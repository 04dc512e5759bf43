use Rattle.std.proofs.Common.{ℕ, List, sym, ap}
use Rattle.affected_apply.specs.Jobs.{job_of}
use Rattle.settings_machine.specs.Requests.{Said, ListsByKey}
use Rattle.settings_machine.specs.Step.{stays}
use Rattle.settings_machine.specs.World.{Key}
use Rattle.api_core.specs.Plans.{with_core}
use Rattle.api_core.proofs.serving.Core.affected.Goals as goal

pub returns-clause-reads : goal.returns-clause-reads
returns-clause-reads c = record {
  changes_nothing = λ I os manifest templates W version.
      ap (λ (l : List (Key × List (List ℕ))). stays (with_core W c.args.self.now.held (job_of c.args.self.now.job))
      (Said (ListsByKey l)))
      (sym (c.in_ok-nearest_lists.ensures I (sym manifest)));
}
