-- What the server makes of a core over a store is what `serve` makes of the store.
use Rattle.std.proofs.Common.{◌≡◌, Bool, true, false, List, Option, refl, sym, ◌∙◌, ap, subst}
use Rattle.outside.specs.Exchange.{Exchange}
use Rattle.outside.specs.History.{History}
use Rattle.outside.specs.Spawner.{Run}
use Rattle.settings_tree.specs.declared.entry.Owed.{Owed}
use Rattle.settings_tree.specs.declared.held.Held.{Held}
use Rattle.version_links.specs.declared.version.Version.{Version}
use Rattle.settings_machine.specs.World.{Image, World}
use Rattle.settings_machine.specs.Events.{Event}
use Rattle.settings_machine.specs.Paid.{IsGood}
use Rattle.machine_disk.specs.Kept.{Folder, CoreState, Kept}
use Rattle.machine_disk.specs.Ran.{Ran}
use Rattle.machine_disk.proofs.Meanings.{core_holds, core_version}
use Rattle.event_lines.specs.Lines.{opened_line}
use Rattle.event_lines.specs.Logs.{LogState, Logs, Tells}
use Rattle.store_open.specs.Laws.{HoldsImage, IsImageOfFolder}
use Rattle.store_open.specs.declared.opened.Opened.{Opened}
use Rattle.api_core.specs.Cores.{core_state}
use Rattle.api_core.specs.declared.serving.Core.{Core}
use Rattle.api_server.specs.Causes.{FaultCounts, AreCounted}
use Rattle.api_server.specs.Serving as server
use Rattle.api_server.specs.Serving.{AreServed}
use Rattle.api_server.specs.declared.pace.Pace.{Pace}
use Rattle.core_commands.specs.Carried.{core_over}
use Rattle.settings_cmd.specs.Serving.{LogsOpened, ServesOn, Serves, ServesCore}

module _ (boot : Bool) (pace : Pace) (fine : Bool) (store : Opened) (c now : Core) (k n n' : FaultCounts) (x x' : Option (List Exchange))
    (r r' : Option (List Run)) (old new : History) (state : core_state c ≡ core_over store) (image : c.image ≡ store.image) (same : k ≡ n) where
  serves_by : (quiet : Bool) (l l' m m' : LogState)
      → ((I : Image) (W : World) (events : List Event) → W.version ≡ store.place.version → W.held.owed ≡ store.held.owed → Logs I W events m m'
      → LogsOpened quiet I W events l l')
      → server.Serves pace boot fine c now n n' x x' r r' m m' old new → Serves boot pace quiet fine store k n' x x' r r' l l' old new
  serves_by quiet l l' m m' logs serves = record { each = by } where
    by : (I : Image) → IsGood I → HoldsImage I store.image → (folder : Folder) → IsImageOfFolder I folder → (W V : World)
        → Kept I folder W V old (core_over store)
        → ServesOn I folder W V boot pace quiet fine (core_over store) k n' x x' r r' l l' old new
    by I good holds folder is W V kept =
        let ran = serves.each I good (subst (HoldsImage I) (sym image) holds) folder is W V (subst (Kept I folder W V old) (sym state) kept) in
        record {
          rounds = ran.rounds;
          events = ran.events;
          are = subst (λ (b : Bool). AreServed I pace boot fine b W ran.rounds ran.events) (ap (λ (s : CoreState). s.faulted) state) ran.are;
          exchanged = ran.exchanged;
          counted = subst (λ (m : FaultCounts). AreCounted ran.events m n') (sym same) ran.counted;
          now = core_state now;
          made = subst (λ (s : CoreState). Ran I folder W V ran.events old new s (core_state now)) state ran.made;
          runs = ran.runs;
          logged = logs I W ran.events (core_version I folder W V old (core_over store) kept refl)
              (ap (λ (h : Held). h.owed) (core_holds I folder W V old (core_over store) kept refl)) ran.logged;
        }

  pub serves_store : (quiet : Bool) (l l' : LogState) → ServesCore boot pace quiet fine c now n n' x x' r r' l l' old new
      → Serves boot pace quiet fine store k n' x x' r r' l l' old new
  serves_store true l l' (same_log, m, m', serves) = serves_by true l l' m m' (λ I W events version owed logged. same_log) serves
  serves_store false l l' (m, tells, serves) =
      serves_by false l l' m l' (λ I W events version owed logged. (m, opened_in I W version owed, logged)) serves where
        opened_in : (I : Image) (W : World) → W.version ≡ store.place.version → W.held.owed ≡ store.held.owed → Tells (opened_line W.version W.held.owed) l m
        opened_in I W version owed =
            subst (λ (v : Version). Tells (opened_line v W.held.owed) l m) (ap (λ (s : CoreState). s.place.version) state ∙ sym version)
            (subst (λ (o : Owed). Tells (opened_line (core_state c).place.version o) l m) (ap (λ (s : CoreState). s.held.owed) state ∙ sym owed) tells)

-- A server that is not to be quiet has logged the opening before it served.
pub loudly : (boot : Bool) (pace : Pace) (quiet fine : Bool) (c now : Core) (n n' : FaultCounts) (x x' : Option (List Exchange)) (r r' : Option (List Run))
    (l m l' : LogState) (old new : History) → quiet ≡ false → Tells (opened_line (core_state c).place.version (core_state c).held.owed) l m
    → server.Serves pace boot fine c now n n' x x' r r' m l' old new → ServesCore boot pace quiet fine c now n n' x x' r r' l l' old new
loudly boot pace quiet fine c now n n' x x' r r' l m l' old new is tells serves =
    subst (λ (q : Bool). ServesCore boot pace q fine c now n n' x x' r r' l l' old new) (sym is) (m, tells, serves)
