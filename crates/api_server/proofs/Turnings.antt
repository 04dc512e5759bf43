-- Turns one after another, each of which is logged.
use Rattle.std.proofs.Common.{◌≡◌, ◌≢◌, ◌≤◌, ◌⊎◌, inl, inr, ◌-◌, ◌&&◌, ℕ, Bool, true, false, List, [], ◌∷◌, ◌++◌, Option, Some}
use Rattle.std.proofs.Common.{refl, sym, ◌∙◌, ap, subst, append_assoc, arith}
use Rattle.std.proofs.lemmas.List.{append-nil}
use Rattle.std.specs.Option.{option_map}
use Rattle.outside.specs.Faults.{HasCause}
use Rattle.outside.specs.History.{History}
use Rattle.outside.specs.Spawner.{Run}
use Rattle.settings_machine.specs.World.{Image, World, Job, is_running}
use Rattle.settings_machine.specs.Step.{Answer}
use Rattle.settings_machine.specs.Events.{Event, Opened, Asked, Unread, Turned, Began, Moved, Forgot, after}
use Rattle.settings_machine.specs.Paid.{IsGood}
use Rattle.settings_machine.proofs.Sequences.{after-append}
use Rattle.machine_disk.specs.Kept.{Folder, Kept}
use Rattle.machine_disk.specs.Ran.{Ran, RunsBy, IsSlice}
use Rattle.machine_disk.proofs.Runs.{ran_none, ran_more}
use Rattle.store_open.specs.Laws.{HoldsImage}
use Rattle.affected_apply.specs.Jobs.{failed_with_disk, failed_to_spawn, answer_of}
use Rattle.affected_apply.specs.Turned.{AreTurns}
use Rattle.affected_apply.proofs.Slices.{ended}
use Rattle.event_lines.specs.Lines.{due_in, turn_lines}
use Rattle.event_lines.specs.Logs.{LogState, Logs, Tells}
use Rattle.event_lines.proofs.Logging.{logs_none, logs_then, logs_event}
use Rattle.api_core.specs.Cores.{core_state}
use Rattle.api_core.specs.Turned as core
use Rattle.api_core.specs.declared.serving.Core.{Core}
use Rattle.api_server.specs.Causes.{FaultCounts, fault_counts, AreCounted}
use Rattle.api_server.specs.Turning.{TurnsBy, Turns}
use Rattle.api_server.proofs.Counted.{counted_none, counted_then}
use Rattle.api_server.proofs.Slices.{core_counted, turns_more}
use Rattle.api_server.proofs.Followed.{runs_none, runs_more}

-- ---- one turn

-- A slice of one is a turn, where the job runs.
one_answer : (I : Image) (W : World) (es : List Event) → is_running W.job ≡ true → IsSlice I 1 W es → (a : Answer) × (es ≡ Turned a ∷ [])
one_answer I W [] running (inl none) = absurd (cc none)
one_answer I W [] running (inr still) = absurd (cc (running, still))
one_answer I W (Turned a ∷ []) running is = (a, refl)
one_answer I W (Turned a ∷ Turned b ∷ es) running is = let none : 1 ≤ 0 = is.3.0 in absurd (omega (arith, none))
one_answer I W (Turned a ∷ Opened boot o ∷ es) running is = absurd is.3
one_answer I W (Turned a ∷ Asked q o ∷ es) running is = absurd is.3
one_answer I W (Turned a ∷ Unread why ∷ es) running is = absurd is.3
one_answer I W (Turned a ∷ Began version ∷ es) running is = absurd is.3
one_answer I W (Turned a ∷ Moved version held ∷ es) running is = absurd is.3
one_answer I W (Turned a ∷ Forgot keys ∷ es) running is = absurd is.3
one_answer I W (Opened boot o ∷ es) running is = absurd is
one_answer I W (Asked q o ∷ es) running is = absurd is
one_answer I W (Unread why ∷ es) running is = absurd is
one_answer I W (Began version ∷ es) running is = absurd is
one_answer I W (Moved version held ∷ es) running is = absurd is
one_answer I W (Forgot keys ∷ es) running is = absurd is

-- What was told is the lines of the turn.
turn_told : (I : Image) (W : World) (es : List Event) (before now : Job) → IsSlice I 1 W es → is_running before ≡ true → before ≡ W.job
    → now ≡ (after I W es).job → (log log_after : LogState) → Tells (turn_lines (due_in I before) now) log log_after → Logs I W es log log_after
turn_told I W es before now slice running before_is now_is log log_after tells =
    let one = one_answer I W es (ap is_running (sym before_is) ∙ running) slice in
    let made : now ≡ (after I W (Turned one.0 ∷ [])).job = now_is ∙ ap (λ (l : List Event). (after I W l).job) one.1 in
    subst (λ (l : List Event). Logs I W l log log_after) (sym one.1)
    (logs_event I W (Turned one.0) log log_after
    (subst (λ (j : Job). Tells (turn_lines (due_in I W.job) j) log log_after) made
    (subst (λ (j : Job). Tells (turn_lines (due_in I j) now) log log_after) before_is tells)))

-- A turn of a core, whose lines were told, is a logged one.
pub turn_logged : (c now : Core) (d d' s s' : ℕ) (ran_before ran_after : Option (List Run)) (log log_after : LogState) (old new : History)
    → is_running (core_state c).job ≡ true → HasCause d d' (answer_of (failed_with_disk (core_state now).job))
    → HasCause s s' (answer_of (failed_to_spawn (core_state now).job))
    → ((I : Image) → I.manifest ≡ c.image.manifest → Tells (turn_lines (due_in I (core_state c).job) (core_state now).job) log log_after)
    → core.Turns c (Some 1) now ran_before ran_after old new
    → Turns (Some 1) c now (fault_counts d s) (fault_counts d' s') ran_before ran_after log log_after old new
turn_logged c now d d' s s' ran_before ran_after log log_after old new running disk spawner tells turns = record { each = by } where
  caused : (n m : ℕ) (failed : Job → Bool) → HasCause n m (answer_of (failed (core_state now).job))
      → HasCause n m (answer_of (is_running (core_state c).job && failed (core_state now).job))
  caused n m failed cause = subst (λ (b : Bool). HasCause n m (answer_of (b && failed (core_state now).job))) (sym running) cause

  by : (I : Image) → IsGood I → HoldsImage I c.image → (folder : Folder) (W V : World) → Kept I folder W V old (core_state c)
      → TurnsBy I folder W V (Some 1) c now (fault_counts d s) (fault_counts d' s') ran_before ran_after log log_after old new
  by I good of folder W V kept =
      let t = turns.each I good of folder W V kept in
      record {
        made = t;
        counted = core_counted I folder W V (Some 1) c now ran_before ran_after old new kept t d d' s s' (caused d d' failed_with_disk disk)
            (caused s s' failed_to_spawn spawner);
        logged = turn_told I W t.turns.events (core_state c).job (core_state now).job t.turns.form running kept.core.job t.turns.ran.kept.core.job log log_after
            (tells I (sym of.manifest_is));
      }

-- ---- turns one after another

-- The turns so far, which with turns of what is left of the slice are a slice.
pub record SoFarIn (I : Image) (folder : Folder) (W V : World) (slice left : Option ℕ) (c now : Core) (counts counts_now : FaultCounts)
    (ran_before ran_now : Option (List Run)) (log log_now : LogState) (old new : History) : Type 0 where
  pub events : List Event
  pub more : (rest : List Event) → AreTurns I left (after I W events) rest → AreTurns I slice W (events ++ rest)
  pub ran : Ran I folder W V events old new (core_state c) (core_state now)
  pub runs : RunsBy I W events ran_before ran_now
  pub image : HoldsImage I now.image
  pub counted : AreCounted events counts counts_now
  pub logged : Logs I W events log log_now

-- By each image that the core holds, in each world at which disk and core are.
pub record SoFar (slice left : Option ℕ) (c now : Core) (counts counts_now : FaultCounts) (ran_before ran_now : Option (List Run)) (log log_now : LogState)
    (old new : History) : Type 0 where
  pub each : (I : Image) → IsGood I → HoldsImage I c.image → (folder : Folder) (W V : World) → Kept I folder W V old (core_state c)
      → SoFarIn I folder W V slice left c now counts counts_now ran_before ran_now log log_now old new

-- Before the first turn.
pub none_yet : (slice : Option ℕ) (c : Core) (d s : ℕ) (ran : Option (List Run)) (log : LogState) (h : History)
    → SoFar slice slice c c (fault_counts d s) (fault_counts d s) ran ran log log h h
none_yet slice c d s ran log h = record {
  each = λ I good of folder W V kept. record {
    events = [];
    more = λ rest r. r;
    ran = ran_none I folder W V h (core_state c) kept;
    runs = runs_none I W ran;
    image = of;
    counted = counted_none d d s s (omega arith) (omega arith);
    logged = logs_none I W log;
  };
}

-- After one more turn.
pub one_turn_more : (slice left left_after : Option ℕ) → left ≢ Some 0 → left_after ≡ option_map (λ n. n - 1) left → (c mid now : Core)
    (counts counts_mid counts_now : FaultCounts) (ran_before ran_mid ran_now : Option (List Run)) (log log_mid log_now : LogState) (old between new : History)
    → SoFar slice left c mid counts counts_mid ran_before ran_mid log log_mid old between
    → Turns (Some 1) mid now counts_mid counts_now ran_mid ran_now log_mid log_now between new
    → SoFar slice left_after c now counts counts_now ran_before ran_now log log_now old new
one_turn_more slice left left_after some fewer c mid now counts counts_mid counts_now ran_before ran_mid ran_now log log_mid log_now old between new
    so_far turn =
    record { each = by } where
      by : (I : Image) → IsGood I → HoldsImage I c.image → (folder : Folder) (W V : World) → Kept I folder W V old (core_state c)
          → SoFarIn I folder W V slice left_after c now counts counts_now ran_before ran_now log log_now old new
      by I good of folder W V kept =
          let was = so_far.each I good of folder W V kept in
          let es = was.events in
          let X = after I W es in
          let next = turn.each I good was.image folder X was.ran.other was.ran.kept in
          let fs = next.made.turns.events in
          record {
            events = es ++ fs;
            more = λ rest r. subst (AreTurns I slice W) (sym (append_assoc es fs rest))
                (was.more (fs ++ rest) (turns_more I left X fs rest some next.made.turns.form
                (subst (λ (l : Option ℕ). AreTurns I l (after I X fs) rest) fewer
                (subst (λ (Y : World). AreTurns I left_after Y rest) (after-append I W es fs) r))));
            ran = ran_more I folder W V es fs old between new (core_state c) (core_state mid) (core_state now) was.ran next.made.turns.ran;
            runs = runs_more I W es fs ran_before ran_mid ran_now was.runs next.made.turns.runs;
            image = next.made.image;
            counted = counted_then es fs counts counts_mid counts_now was.counted next.counted;
            logged = logs_then I W es fs log log_mid log_now was.logged next.logged;
          }

-- Then the turns so far are the slice.
pub all_made : (slice left : Option ℕ) (c now : Core) (counts counts_now : FaultCounts) (ran_before ran_now : Option (List Run)) (log log_now : LogState)
    (old new : History) → (left ≡ Some 0) ⊎ (is_running (core_state now).job ≡ false)
    → SoFar slice left c now counts counts_now ran_before ran_now log log_now old new
    → Turns slice c now counts counts_now ran_before ran_now log log_now old new
all_made slice left c now counts counts_now ran_before ran_now log log_now old new done so_far = record { each = by } where
  by : (I : Image) → IsGood I → HoldsImage I c.image → (folder : Folder) (W V : World) → Kept I folder W V old (core_state c)
      → TurnsBy I folder W V slice c now counts counts_now ran_before ran_now log log_now old new
  by I good of folder W V kept =
      let a = so_far.each I good of folder W V kept in
      let still : (left ≡ Some 0) ⊎ (is_running (after I W a.events).job ≡ false) = rests (after I W a.events).job a.ran.kept.core.job done in
      record {
        made = record {
          turns = record {
            events = a.events;
            form = subst (AreTurns I slice W) (append-nil a.events) (a.more [] (ended I left (after I W a.events) still));
            ran = a.ran;
            runs = a.runs;
          };
          image = a.image;
        };
        counted = a.counted;
        logged = a.logged;
      } where
        rests : (j : Job) → (core_state now).job ≡ j → (left ≡ Some 0) ⊎ (is_running (core_state now).job ≡ false) → (left ≡ Some 0) ⊎ (is_running j ≡ false)
        rests j is (inl none) = inl none
        rests j is (inr still) = inr (ap is_running (sym is) ∙ still)
