-- What an opening makes of a core.
use Rattle.std.specs.Prelude.{◌≡◌, false, Result, Ok, Err}
use Rattle.outside.specs.History.{History}
use Rattle.store_open.specs.Opening.{Opens}
use Rattle.store_open.specs.declared.open_error.OpenError.{OpenError}
use Rattle.store_open.specs.declared.opened.Opened.{Opened}
use Rattle.api_core.specs.Cores.{core_state}
use Rattle.api_core.specs.declared.serving.Core.{Core}

-- The store was opened, and the core holds it; its job stays.
pub record HoldsOpened (c now : Core) (old new : History) : Type 0 where
  pub store : Opened
  pub opens : Opens false (Ok store) old new
  pub state : core_state now ≡ record (core_state c) { place = store.place; held = store.held; faulted = false }
  pub image : now.image ≡ store.image

-- The store was not opened, and the core is as before.
pub record HoldsStill (c : Core) (e : OpenError) (now : Core) (old new : History) : Type 0 where
  pub opens : Opens false (Err e) old new
  pub same : now ≡ c

-- One of the two.
abbrev pub Reopens : Core → Result Unit OpenError → Core → History → History → Type 0
Reopens c (Ok done) now old new = HoldsOpened c now old new
Reopens c (Err e) now old new = HoldsStill c e now old new
