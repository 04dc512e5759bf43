use Rattle.std.proofs.Common.{◌≡◌, ◌++◌, drop}
use Rattle.settings_machine.specs.World.{Image}
use Rattle.settings_machine.specs.Seen.{HoldsTemplates}
use Rattle.settings_machine.specs.Plans.{refusing}
use Rattle.settings_machine.proofs.plan.refusing.Given as goal

-- The files before this one whose templates refuse are there, and those from this one on are still to be looked at.
abbrev pub invariant-loop-file : goal.invariant-loop-file
invariant-loop-file l = (I : Image) → HoldsTemplates I l.templates → l.os ≡ I.os
    → refusing I l.live l.files ≡ l.refused.items ++ refusing I l.live (drop l.file-index l.files)
