-- Laws of plans.
use Rattle.std.specs.Prelude.{◌≡◌, List, IsTrue}
use Rattle.std.specs.List.{list_all}
use Rattle.version_links.specs.declared.version.Version.{Version}
use Rattle.release_file.specs.declared.transition.Transition.{Transition}
use Rattle.release_file.specs.declared.planning.Step.{Step}
use Rattle.release_file.specs.Release.{leads_on}
use Rattle.release_file.specs.Chain.{IsPlan, HasNoPlan}

-- Between two versions there is one plan at most.
abbrev pub PlansOnce : Type 0
PlansOnce = (all : List Transition) (from to : Version) (one other : List Step) → IsTrue (list_all leads_on all) → IsPlan all from to one
    → IsPlan all from to other → one ≡ other

-- Where there is a plan, no version is missing.
abbrev pub PlansOrMisses : Type 0
PlansOrMisses = (all : List Transition) (from to at target : Version) (steps : List Step) → IsTrue (list_all leads_on all) → IsPlan all from to steps
    → HasNoPlan all from to at target → ⊥

-- One version is missing at most.
abbrev pub MissesOnce : Type 0
MissesOnce = (all : List Transition) (from to at target other end : Version) → IsTrue (list_all leads_on all) → HasNoPlan all from to at target
    → HasNoPlan all from to other end → at ≡ other
