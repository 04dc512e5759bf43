-- No request is given up where the image is as before.
use Rattle.std.proofs.Common.{◌≢◌, ℕ, List, Option, Some, None, subst}
use Rattle.outside.specs.History.{History}
use Rattle.outside.specs.Told.{BothBy, Moves}
use Rattle.settings_machine.specs.World.{Image, World}
use Rattle.settings_machine.specs.Requests.{Request, Reply, NotOpened}
use Rattle.settings_machine.specs.Paid.{IsGood}
use Rattle.machine_disk.specs.Kept.{Folder, Kept}
use Rattle.store_open.specs.Laws.{HoldsImage, IsImageOfFolder}
use Rattle.event_lines.specs.Logs.{LogState}
use Rattle.api_core.specs.Cores.{core_state}
use Rattle.api_core.specs.declared.serving.Core.{Core}
use Rattle.api_server.specs.Handled.{IsNotOpened, Fits, IsHandled, Handles, IsOtherStore}
use Rattle.api_server.specs.declared.handled.Handled.{Handled}

-- A request was handled, and given up only where the image is another.
pub record HandlesFor (c : Core) (q : Request) (sent : Handled) (now : Core) (log log_after : LogState) (old new : History) : Type 0 where
  pub handles : Handles c q sent now log log_after old new
  pub other : IsNotOpened sent → IsOtherStore c old new

both_told : (c : Core) (q : Request) (sent : Handled) (now : Core) (log log_after : LogState) (a b : Option History)
    → BothBy (Handles c q sent now log log_after) a b → (IsNotOpened sent → Moves a b (IsOtherStore c)) → BothBy (HandlesFor c q sent now log log_after) a b
both_told c q sent now log log_after None None handles other = tt
both_told c q sent now log log_after (Some old) (Some new) handles other = record { handles = handles; other = λ is. (other is).told }
both_told c q sent now log log_after None (Some new) handles other = handles
both_told c q sent now log log_after (Some old) None handles other = handles

pub handles_told : (c : Core) (q : Request) (sent : Handled) (now : Core) (log log_after : LogState) (a b : Option History)
    → Moves a b (Handles c q sent now log log_after) → (IsNotOpened sent → Moves a b (IsOtherStore c)) → Moves a b (HandlesFor c q sent now log log_after)
handles_told c q sent now log log_after a b handles other = record { told = both_told c q sent now log log_after a b handles.told other }

-- Where the image is as before, no request is given up.
pub opened_again : (c : Core) (q : Request) (sent : Handled) (now : Core) (log log_after : LogState) (old new : History)
    → HandlesFor c q sent now log log_after old new → (I : Image) → IsGood I → HoldsImage I c.image → (folder : Folder) → IsImageOfFolder I folder
    → (W V : World)
    → Kept I folder W V old (core_state c) → (done : IsHandled I folder W V q sent c now log log_after old new) → (at : List ℕ) → done.replied ≢ NotOpened at
opened_again c q sent now log log_after old new handles I good of folder made W V kept done at is =
    (handles.other (subst (λ (r : Reply). Fits r sent) is done.fits)).other I good of folder made W V kept
