-- For private clauses: what a command tells of the world at its end.
use Rattle.std.specs.Prelude.{ℕ, List}
use Rattle.settings_machine.specs.World.{World}
use Rattle.core_commands.specs.Lines.{IsSettingsLine, IsJobLine}
use Rattle.core_commands.specs.declared.telling.Telling.{Telling}
use Rattle.core_commands.specs.declared.telling.Telling.TheVariants.{Settings, Job}

-- The line tells of the live settings, or of the job and of what is owed.
abbrev pub Tells : Telling → World → List ℕ → Type 0
Tells Settings W line = IsSettingsLine W line
Tells Job W line = IsJobLine W line
