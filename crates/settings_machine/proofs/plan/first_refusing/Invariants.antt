use Rattle.std.proofs.Common.{◌≡◌, drop}
use Rattle.settings_machine.specs.World.{Image}
use Rattle.settings_machine.specs.Seen.{HoldsTemplates}
use Rattle.settings_machine.specs.Plans.{refusing}
use Rattle.settings_machine.proofs.plan.first_refusing.Given as goal

-- No template of a file before this one refuses.
abbrev pub invariant-loop-file : goal.invariant-loop-file
invariant-loop-file l = (I : Image) → HoldsTemplates I l.templates → l.os ≡ I.os
    → refusing I l.live l.files ≡ refusing I l.live (drop l.file-index l.files)
