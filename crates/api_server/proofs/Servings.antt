-- A whole run over an opened store, from its parts.
use Rattle.std.proofs.Common.{◌≡◌, ℕ, Bool, true, false, List, [], ◌++◌, Option, None, refl, subst, arith}
use Rattle.outside.specs.Exchange.{Exchange}
use Rattle.outside.specs.History.{History}
use Rattle.outside.specs.Spawner.{Run}
use Rattle.outside.specs.Told.{Moves}
use Rattle.outside.proofs.Told.{moves_then}
use Rattle.settings_machine.specs.World.{Image, World}
use Rattle.settings_machine.specs.Requests.{Reply, Apply}
use Rattle.settings_machine.specs.Events.{after}
use Rattle.settings_machine.specs.Paid.{IsGood}
use Rattle.machine_disk.specs.Kept.{Folder, Kept}
use Rattle.machine_disk.proofs.Runs.{ran_none, ran_more}
use Rattle.store_open.specs.Laws.{HoldsImage, IsImageOfFolder}
use Rattle.event_lines.specs.Logs.{LogState}
use Rattle.event_lines.proofs.Logging.{logs_none, logs_then}
use Rattle.api_core.specs.Cores.{core_state}
use Rattle.api_core.specs.declared.serving.Core.{Core}
use Rattle.api_server.specs.declared.handled.Handled.{Handled}
use Rattle.api_server.specs.declared.pace.Pace.{Pace}
use Rattle.api_server.specs.Causes.{FaultCounts, fault_counts}
use Rattle.api_server.specs.Handled.{Fits, HasDiskCause}
use Rattle.api_server.specs.Turning.{Turns}
use Rattle.api_server.specs.Rounds.{AreRounds, events_of}
use Rattle.api_server.specs.Answered.{ServesAll}
use Rattle.api_server.specs.Serving.{BootedBy, Boots, EndedBy, Ends, ServedBy, Serves}
use Rattle.api_server.proofs.Counted.{counted_none, counted_then, handled_counted}
use Rattle.api_server.proofs.Requested.{handled_runs}
use Rattle.api_server.proofs.Replied.{HandlesFor, opened_again}
use Rattle.api_server.proofs.Followed.{runs_none, runs_more, runs_after}

-- ---- the beginning

-- `Apply`, and then a slice of turns.
pub begun : (boot : Bool) → boot ≡ true → (slice : Option ℕ) (sent : Handled) (c mid now : Core) (d d_mid d' s s' : ℕ)
    (ran_before ran_after : Option (List Run)) (log log_mid log_after : LogState) (old between new : History)
    → HandlesFor c Apply sent mid log log_mid old between → HasDiskCause d d_mid sent
    → Turns slice mid now (fault_counts d_mid s) (fault_counts d' s') ran_before ran_after log_mid log_after between new
    → Boots boot slice c now (fault_counts d s) (fault_counts d' s') ran_before ran_after log log_after old new
begun false is slice sent c mid now d d_mid d' s s' ran_before ran_after log log_mid log_after old between new handles cause turns = absurd (cc is)
begun true is slice sent c mid now d d_mid d' s s' ran_before ran_after log log_mid log_after old between new handles cause turns = record { each = by } where
  by : (I : Image) → IsGood I → HoldsImage I c.image → (folder : Folder) → IsImageOfFolder I folder → (W V : World) → Kept I folder W V old (core_state c)
      → BootedBy I folder W V true slice c now (fault_counts d s) (fault_counts d' s') ran_before ran_after log log_after old new
  by I good of folder made W V kept =
      let one = handles.handles.each I good of folder (λ _ _. made) W V kept in
      let X = after I W one.events in
      let two = turns.each I good one.image folder X one.made.other one.made.kept in
      let turned = two.made.turns in
      record {
        events = one.events ++ turned.events;
        are = record {
          asked = one.events;
          turned = turned.events;
          whole = refl;
          reply = one.replied;
          request = record {
            handled = one.handled_by;
            opens = opened_again c Apply sent mid log log_mid old between handles I good of folder made W V kept one;
          };
          turns = turned.form;
        };
        counted = counted_then one.events turned.events (fault_counts d s) (fault_counts d_mid s) (fault_counts d' s')
            (handled_counted I W c.faulted Apply one.replied one.events one.handled_by d d_mid s s cause.later (omega arith)
            (λ fault. cause.failed (subst (λ (r : Reply). Fits r sent) fault one.fits))) two.counted;
        made = ran_more I folder W V one.events turned.events old between new (core_state c) (core_state mid) (core_state now) one.made turned.ran;
        logged = logs_then I W one.events turned.events log log_mid log_after one.logged two.logged;
        runs = runs_after I W one.events turned.events ran_before ran_after (handled_runs I c.faulted W Apply one.replied one.events one.handled_by)
            turned.runs;
        image = two.made.image;
      }

-- Without boot.
pub not_begun : (boot : Bool) → boot ≡ false → (slice : Option ℕ) (c : Core) (d s : ℕ) (ran : Option (List Run)) (log : LogState) (h : History)
    → Boots boot slice c c (fault_counts d s) (fault_counts d s) ran ran log log h h
not_begun true is slice c d s ran log h = absurd (cc is)
not_begun false is slice c d s ran log h = record { each = by } where
  by : (I : Image) → IsGood I → HoldsImage I c.image → (folder : Folder) → IsImageOfFolder I folder → (W V : World) → Kept I folder W V h (core_state c)
      → BootedBy I folder W V false slice c c (fault_counts d s) (fault_counts d s) ran ran log log h h
  by I good of folder made W V kept = record {
    events = [];
    are = refl;
    counted = counted_none d d s s (omega arith) (omega arith);
    made = ran_none I folder W V h (core_state c) kept;
    logged = logs_none I W log;
    runs = runs_none I W ran;
    image = of;
  }

-- ---- the end

-- Turns until no job runs.
pub driven : (fine : Bool) → fine ≡ true → (c now : Core) (counts counts_after : FaultCounts) (ran_before ran_after : Option (List Run))
    (log log_after : LogState) (old new : History) → Turns None c now counts counts_after ran_before ran_after log log_after old new
    → Ends fine c now counts counts_after ran_before ran_after log log_after old new
driven false is c now counts counts_after ran_before ran_after log log_after old new turns = absurd (cc is)
driven true is c now counts counts_after ran_before ran_after log log_after old new turns = record { each = by } where
  by : (I : Image) → IsGood I → HoldsImage I c.image → (folder : Folder) → IsImageOfFolder I folder → (W V : World) → Kept I folder W V old (core_state c)
      → EndedBy I folder W V true c now counts counts_after ran_before ran_after log log_after old new
  by I good of folder made W V kept =
      let done = turns.each I good of folder W V kept in
      let turned = done.made.turns in
      record {
        events = turned.events;
        are = turned.form;
        counted = done.counted;
        made = turned.ran;
        logged = done.logged;
        runs = turned.runs;
        image = done.made.image;
      }

-- An accept failed.
pub not_driven : (fine : Bool) → fine ≡ false → (c : Core) (d s : ℕ) (ran : Option (List Run)) (log : LogState) (h : History)
    → Ends fine c c (fault_counts d s) (fault_counts d s) ran ran log log h h
not_driven true is c d s ran log h = absurd (cc is)
not_driven false is c d s ran log h = record { each = by } where
  by : (I : Image) → IsGood I → HoldsImage I c.image → (folder : Folder) → IsImageOfFolder I folder → (W V : World) → Kept I folder W V h (core_state c)
      → EndedBy I folder W V false c c (fault_counts d s) (fault_counts d s) ran ran log log h h
  by I good of folder made W V kept = record {
    events = [];
    are = refl;
    counted = counted_none d d s s (omega arith) (omega arith);
    made = ran_none I folder W V h (core_state c) kept;
    logged = logs_none I W log;
    runs = runs_none I W ran;
    image = of;
  }

-- ---- the whole

-- The beginning, the connections one after another, and the end.
pub whole : (pace : Pace) (boot fine : Bool) (c up served now : Core) (n0 n1 n2 n3 : FaultCounts) (told told_after : Option (List Exchange))
    (ran_before ran_up ran_served ran_after : Option (List Run)) (l0 l1 l2 l3 : LogState) (old booted ended new : History)
    → Boots boot pace.slice c up n0 n1 ran_before ran_up l0 l1 old booted
    → ServesAll pace up served n1 n2 told told_after ran_up ran_served l1 l2 booted ended
    → Ends fine served now n2 n3 ran_served ran_after l2 l3 ended new → Serves pace boot fine c now n0 n3 told told_after ran_before ran_after l0 l3 old new
whole pace boot fine c up served now n0 n1 n2 n3 told told_after ran_before ran_up ran_served ran_after l0 l1 l2 l3 old booted ended new boots serves ends =
    record { each = by } where
      by : (I : Image) → IsGood I → HoldsImage I c.image → (folder : Folder) → IsImageOfFolder I folder → (W V : World) → Kept I folder W V old (core_state c)
          → ServedBy I folder W V pace boot fine c now n0 n3 told told_after ran_before ran_after l0 l3 old new
      by I good of folder made W V kept =
          let one = boots.each I good of folder made W V kept in
          let X = after I W one.events in
          let two = serves.each I good one.image folder made X one.made.other one.made.kept in
          let middle = events_of two.rounds ++ two.idle in
          let Y = after I X middle in
          let three = ends.each I good two.image folder made Y two.made.other two.made.kept in
          let last = middle ++ three.events in
          record {
            rounds = two.rounds;
            events = one.events ++ last;
            are = record {
              booted = one.events;
              idle = two.idle;
              last = three.events;
              whole = refl {a = one.events ++ last};
              boots = one.are;
              are = subst (λ (f : Bool). AreRounds I pace f X two.rounds) one.made.flag two.are;
              idles = two.idles;
              ends = three.are;
            };
            exchanged = two.exchanged;
            counted = counted_then one.events last n0 n1 n3 one.counted (counted_then middle three.events n1 n2 n3 two.counted three.counted);
            made = ran_more I folder W V one.events last old booted new (core_state c) (core_state up) (core_state now) one.made
                (ran_more I folder X one.made.other middle three.events booted ended new (core_state up) (core_state served) (core_state now)
                two.made three.made);
            logged = logs_then I W one.events last l0 l1 l3 one.logged (logs_then I X middle three.events l1 l2 l3 two.logged three.logged);
            runs = runs_more I W one.events last ran_before ran_up ran_after one.runs
                (runs_more I X middle three.events ran_up ran_served ran_after two.runs three.runs);
            image = three.image;
          }

-- The same on a disk.
pub whole_told : (pace : Pace) (boot fine : Bool) (c up served now : Core) (n0 n1 n2 n3 : FaultCounts) (told told_after : Option (List Exchange))
    (ran_before ran_up ran_served ran_after : Option (List Run)) (l0 l1 l2 l3 : LogState) (h0 h1 h2 h3 : Option History)
    → Moves h0 h1 (Boots boot pace.slice c up n0 n1 ran_before ran_up l0 l1)
    → Moves h1 h2 (ServesAll pace up served n1 n2 told told_after ran_up ran_served l1 l2)
    → Moves h2 h3 (Ends fine served now n2 n3 ran_served ran_after l2 l3)
    → Moves h0 h3 (Serves pace boot fine c now n0 n3 told told_after ran_before ran_after l0 l3)
whole_told pace boot fine c up served now n0 n1 n2 n3 told told_after ran_before ran_up ran_served ran_after l0 l1 l2 l3 h0 h1 h2 h3 m n o =
    let begins : Moves h0 h2 (λ old ended. (booted : History) × Boots boot pace.slice c up n0 n1 ran_before ran_up l0 l1 old booted
    × ServesAll pace up served n1 n2 told told_after ran_up ran_served l1 l2 booted ended)
    = moves_then (λ old booted ended boots serves. (booted, boots, serves)) m n in
    moves_then
    (λ old ended new both ends. whole pace boot fine c up served now n0 n1 n2 n3 told told_after ran_before ran_up ran_served ran_after l0 l1 l2 l3 old both.0
    ended new both.1 both.2 ends)
    begins o
