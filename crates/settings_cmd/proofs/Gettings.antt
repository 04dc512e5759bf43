-- A `get` that answers is an opening of the machine.
use Rattle.std.proofs.Common.{◌≡◌, ℕ, List, false, Result, Ok, Err}
use Rattle.outside.specs.History.{History}
use Rattle.settings_machine.specs.World.{Image, World, is_running}
use Rattle.settings_machine.specs.Paid.{IsGood}
use Rattle.machine_disk.specs.Kept.{Folder, DiskAt}
use Rattle.store_open.specs.Laws.{IsImageOfFolder}
use Rattle.store_open.specs.Opening.{Opens}
use Rattle.store_open.specs.declared.opened.Opened.{Opened}
use Rattle.store_open.specs.declared.open_error.OpenError.{OpenError}
use Rattle.store_open.proofs.MachineRuns.{openings_run}
use Rattle.command_outcome.specs.Ends.{Outcome}
use Rattle.core_commands.specs.Handing.{not_opened}
use Rattle.settings_cmd.specs.Gets.{AnswersOpening}
use Rattle.settings_cmd.specs.Laws.{IsOpening, GettingsOpen}

refused_opening : (e : OpenError) (line : List ℕ) → ◌≡◌ {A = Outcome} (Ok line) (Err (not_opened e)) → ⊥
refused_opening e line is = cc is

answered : (I : Image) → IsGood I → (folder : Folder) → IsImageOfFolder I folder → (W V : World) (keys : List (List (List ℕ))) (line : List ℕ)
    (old new : History) → DiskAt I folder W V old → is_running W.job ≡ false
    → (result : Result Opened OpenError) → Opens false result old new → AnswersOpening keys result (Ok line) → IsOpening I folder W V keys line old new
answered I good folder is W V keys line old new at idle (Ok store) opens answers =
    let run = openings_run I good folder is W V false (Ok store) old new at idle opens in
    record { store = store; opens = run.0; image = run.1; answers = answers }
answered I good folder is W V keys line old new at idle (Err e) opens answers = absurd (refused_opening e line answers)

pub gettings_open : GettingsOpen
gettings_open I good folder is W V keys line old new at idle got = answered I good folder is W V keys line old new at idle got.result got.opens.told got.answers
