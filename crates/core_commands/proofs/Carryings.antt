-- What follows an opening, and what is reported at the end.
use Rattle.std.proofs.Common.{◌≡◌, inr, List, Option, Result, Ok, Err}
use Rattle.std.specs.Result.{result_and}
use Rattle.outside.specs.History.{History}
use Rattle.outside.specs.Spawner.{Run}
use Rattle.outside.proofs.Told.{moves_map}
use Rattle.store_open.specs.declared.opened.Opened.{Opened}
use Rattle.store_open.specs.declared.open_error.OpenError.{OpenError}
use Rattle.settings_machine.specs.World.{Image, World, Idle}
use Rattle.settings_machine.specs.Requests.{Request}
use Rattle.settings_machine.specs.Events.{Event}
use Rattle.machine_disk.specs.Kept.{Folder, CoreState}
use Rattle.api_core.specs.declared.serving.Core.{Core}
use Rattle.command_outcome.specs.declared.refusal.Refusal.{Refusal}
use Rattle.command_outcome.specs.declared.refusal.Refusal.TheVariants as refused
use Rattle.core_commands.specs.Carried.{Comes, HoldsAll, core_over, Follows, GoesOn, FollowsOpening, CarriesOut}
use Rattle.core_commands.specs.Handing.{not_opened}

-- ---- what is reported at the end

-- A refusal is one whatever would have been told.
pub comes_err : {A B : Type 0} (I : Image) (W : World) (qs : List Request) (P : World → A → Type 0) (Q : World → B → Type 0) (e : Refusal)
    (asked turned : List Event)
    → Comes I W qs P (Err e) asked turned → Comes I W qs Q (Err e) asked turned
comes_err I W qs P Q refused.Memory asked turned comes = comes
comes_err I W qs P Q refused.Usage asked turned comes = comes
comes_err I W qs P Q refused.Disk asked turned comes = comes
comes_err I W qs P Q refused.Door asked turned comes = comes
comes_err I W qs P Q (refused.Spawn name) asked turned comes = comes
comes_err I W qs P Q refused.NoStore asked turned comes = comes
comes_err I W qs P Q (refused.Damaged path) asked turned comes = comes
comes_err I W qs P Q (refused.BadLink path) asked turned comes = comes
comes_err I W qs P Q (refused.BadJournal path) asked turned comes = comes
comes_err I W qs P Q (refused.BadImage file kind at) asked turned comes = comes
comes_err I W qs P Q (refused.IllTyped key) asked turned comes = comes
comes_err I W qs P Q (refused.NotCovered lines) asked turned comes = comes
comes_err I W qs P Q (refused.Render file error) asked turned comes = comes
comes_err I W qs P Q (refused.Status service number) asked turned comes = comes
comes_err I W qs P Q (refused.Missing at target) asked turned comes = comes
comes_err I W qs P Q (refused.Conflict key) asked turned comes = comes
comes_err I W qs P Q (refused.Refused refusal) asked turned comes = comes
comes_err I W qs P Q (refused.AlreadyThere version) asked turned comes = comes
comes_err I W qs P Q (refused.OldFormat directory) asked turned comes = comes
comes_err I W qs P Q (refused.GeneratorStatus key number) asked turned comes = comes
comes_err I W qs P Q (refused.GeneratorOutput key) asked turned comes = comes
comes_err I W qs P Q (refused.UserData kind at) asked turned comes = comes
comes_err I W qs P Q (refused.Dump kind at) asked turned comes = comes
comes_err I W qs P Q (refused.MigrationStatus name number) asked turned comes = comes
comes_err I W qs P Q (refused.MigrationOutput name) asked turned comes = comes
comes_err I W qs P Q (refused.NotCurrent lines) asked turned comes = comes
comes_err I W qs P Q (refused.HoldsIllTyped lines) asked turned comes = comes
comes_err I W qs P Q (refused.WouldNotRender lines) asked turned comes = comes

module _ {A B : Type 0} (qs : List Request) (P : World → A → Type 0) (Q : World → B → Type 0) (r : Result A Refusal) (s : Result B Refusal)
    (ran_before ran_after : Option (List Run))
    (step : (I : Image) (W : World) (asked turned : List Event) → Comes I W qs P r asked turned → Comes I W qs Q s asked turned) where
  follows_as : (I : Image) (folder : Folder) (W V : World) (before : CoreState) (old new : History)
      → Follows I folder W V qs P r before ran_before ran_after old new
      → Follows I folder W V qs Q s before ran_before ran_after old new
  follows_as I folder W V before old new f =
      record { asked = f.asked; turned = f.turned; comes = step I W f.asked f.turned f.comes; now = f.now; made = f.made; runs = f.runs }

  -- From an open store,
  pub goes_as : (store : Opened) (old new : History) → GoesOn qs P store r ran_before ran_after old new → GoesOn qs Q store s ran_before ran_after old new
  goes_as store old new goes = record {
    each = λ I good holds folder W V kept. follows_as I folder W V (core_over store) old new
        (goes.each I good holds folder W V kept);
  }

  module _ (hands : (e : OpenError) → r ≡ Err (not_opened e) → s ≡ Err (not_opened e)) where
    followed : (opening : Result Opened OpenError) (between told_after : Option History) → FollowsOpening qs P opening r ran_before ran_after between told_after
        → FollowsOpening qs Q opening s ran_before ran_after between told_after
    followed (Ok store) between told_after goes = moves_map (goes_as store) goes
    followed (Err e) between told_after is = (hands e is.0, is.1, is.2)

    -- and with the opening, what is reported at the end is another thing of the same.
    pub carries_as : (told_before told_after : Option History) → CarriesOut qs P r ran_before ran_after told_before told_after
        → CarriesOut qs Q s ran_before ran_after told_before told_after
    carries_as told_before told_after c = record {
      opening = c.opening;
      between = c.between;
      opens = c.opens;
      follows =
          followed c.opening c.between told_after c.follows;
    }

module _ {A B : Type 0} (qs : List Request) (P : World → A → Type 0) (Q : World → B → Type 0) (ran_before ran_after : Option (List Run))
    (told_before told_after : Option History) where
  -- A refusal,
  pub carries_refusal : (e : Refusal) → CarriesOut qs P (Err e) ran_before ran_after told_before told_after
      → CarriesOut qs Q (Err e) ran_before ran_after told_before told_after
  carries_refusal e c =
      carries_as qs P Q (Err e) (Err e) ran_before ran_after (λ I W asked turned comes. comes_err I W qs P Q e asked turned comes) (λ x is. cc is) told_before
      told_after c

  -- what is reported, from what was reported,
  pub carries_said : (said : A) (line : B) → ((W : World) → P W said → Q W line) → CarriesOut qs P (Ok said) ran_before ran_after told_before told_after
      → CarriesOut qs Q (Ok line) ran_before ran_after told_before told_after
  carries_said said line step c =
      carries_as qs P Q (Ok said) (Ok line) ran_before ran_after (λ I W asked turned comes. (comes.0, step _ comes.1)) (λ x is. absurd (cc is)) told_before
      told_after c

  -- and running out of memory for it.
  pub carries_lost : (said : A) → CarriesOut qs P (Ok said) ran_before ran_after told_before told_after
      → CarriesOut qs Q (Err refused.Memory) ran_before ran_after told_before told_after
  carries_lost said c =
      carries_as qs P Q (Ok said) (Err refused.Memory) ran_before ran_after (λ I W asked turned comes. inr (Idle, comes.0)) (λ x is. absurd (cc is)) told_before
      told_after c

-- The core that is answered holds what it held; a refusal stays one.
pub goes_core : (qs : List Request) (core : Core) (done : Result Unit Refusal) (ran_before ran_after : Option (List Run)) (store : Opened) (old new : History)
    → GoesOn qs (λ W d. HoldsAll W core) store done ran_before ran_after old new → GoesOn qs HoldsAll store (result_and done (Ok core)) ran_before ran_after old
    new
goes_core qs core (Ok d) ran_before ran_after store old new goes =
    goes_as qs (λ W d. HoldsAll W core) HoldsAll (Ok d) (Ok core) ran_before ran_after (λ I W asked turned comes. comes) store old new goes
goes_core qs core (Err e) ran_before ran_after store old new goes =
    goes_as qs (λ W d. HoldsAll W core) HoldsAll (Err e) (Err e) ran_before ran_after
    (λ I W asked turned comes. comes_err {A = Unit {0}} {B = Core} I W qs (λ X d. HoldsAll X core) HoldsAll e asked turned comes) store old new goes
