-- What follows an opening: requests, turns, and what is reported at the end.
use Rattle.std.proofs.Common.{◌≡◌, inl, inr, false, List, [], ◌++◌, Option, Some, None, Result, Ok, Err, OnOk, refl, sym, ◌∙◌, ap, subst}
use Rattle.std.proofs.lemmas.List.{append-nil}
use Rattle.outside.specs.History.{History}
use Rattle.outside.specs.Spawner.{Run}
use Rattle.outside.proofs.Told.{moves_same, moves_stay, moves_map}
use Rattle.store_open.specs.Laws.{HoldsImage}
use Rattle.store_open.specs.declared.opened.Opened.{Opened}
use Rattle.settings_machine.specs.World.{Image, World, Job, Idle, Failed, Running, is_running}
use Rattle.settings_machine.specs.Requests as machine
use Rattle.settings_machine.specs.Requests.{Request, Reply}
use Rattle.settings_machine.specs.Events.{Event, after}
use Rattle.settings_machine.specs.Paid.{IsGood}
use Rattle.settings_machine.specs.declared.cause.Cause.{Cause}
use Rattle.settings_machine.specs.declared.cause.Cause.TheVariants as cause
use Rattle.settings_machine.proofs.Sequences.{after-append}
use Rattle.machine_disk.specs.Kept.{Folder, CoreState, Kept}
use Rattle.machine_disk.specs.Ran.{Ran, RunsBy}
use Rattle.machine_disk.proofs.Runs.{ran_none, ran_more}
use Rattle.machine_disk.proofs.Meanings.{core_holds}
use Rattle.affected_apply.specs.Turned.{AreEvents}
use Rattle.command_outcome.specs.declared.refusal.Refusal.{Refusal}
use Rattle.api_core.specs.Cores.{core_state}
use Rattle.api_core.specs.Turned.{IsTurned, Turns}
use Rattle.api_core.specs.declared.serving.Core.{Core}
use Rattle.core_commands.specs.Asking.{Stops, AskedBy, AsksEach}
use Rattle.core_commands.specs.Carried.{HasEnded, Comes, HoldsAll, core_over, Follows, GoesOn}
use Rattle.core_commands.specs.Handing as told
use Rattle.core_commands.specs.Handing.{failed_for, HandsCause, HandsJob, Drives}
use Rattle.core_commands.proofs.Fresh.{IsFresh, asked_fresh}
use Rattle.core_commands.proofs.Requested.{succeeds_runs, stops_runs}

module _ {T : Type 0} (I : Image) (W : World) (qs : List Request) (Tells : World → T → Type 0) where
  -- ---- what a refusal comes to

  -- A reply without success.
  stops_come : (reply : Reply) (asked : List Event) → Stops I W qs reply asked → (refusal : Refusal) → told.Tells reply refusal
      → Comes I W qs Tells (Err refusal) asked []
  stops_come (machine.Refused r) asked stops refusal told = subst (λ (x : Refusal). Comes I W qs Tells (Err x) asked []) (sym told)
      (record { stops = stops; no_turns = refl })
  stops_come machine.NoMemory asked stops refusal told = subst (λ (x : Refusal). Comes I W qs Tells (Err x) asked []) (sym told)
      (inl (record { stops = stops; no_turns = refl }))
  stops_come machine.DiskFault asked stops refusal told = subst (λ (x : Refusal). Comes I W qs Tells (Err x) asked []) (sym told)
      (inl (record { stops = stops; no_turns = refl }))
  stops_come (machine.Said body) asked stops refusal told = absurd told
  stops_come machine.Empty asked stops refusal told = absurd told
  stops_come (machine.NotOpened at) asked stops refusal told = absurd told

  cause_come : (c : Cause) (asked turned : List Event) → HasEnded I W qs (Failed c) asked turned → Comes I W qs Tells (Err (failed_for c)) asked turned
  cause_come cause.Disk asked turned ended = inr ended
  cause_come (cause.Spawn service) asked turned ended = ended
  cause_come (cause.Render file error) asked turned ended = ended
  cause_come (cause.Status service number) asked turned ended = ended
  cause_come cause.Memory asked turned ended = inr (Failed cause.Memory, ended)

  -- A job that failed.
  fails_come : (c : Cause) (asked turned : List Event) → HasEnded I W qs (Failed c) asked turned → (refusal : Refusal) → HandsCause c refusal
      → Comes I W qs Tells (Err refusal) asked turned
  fails_come c asked turned ended refusal (inl is) = subst (λ (x : Refusal). Comes I W qs Tells (Err x) asked turned) (sym is) (cause_come c asked turned ended)
  fails_come c asked turned ended refusal (inr none) = subst (λ (x : Refusal). Comes I W qs Tells (Err x) asked turned) (sym none.0) (inr (Failed c, ended))

  job_come : (job : Job) (asked turned : List Event) → HasEnded I W qs job asked turned → (refusal : Refusal) → HandsJob job (Some refusal)
      → Comes I W qs Tells (Err refusal) asked turned
  job_come Idle asked turned ended refusal hands = absurd hands
  job_come (Failed c) asked turned ended refusal hands = fails_come c asked turned ended refusal hands
  job_come (Running work) asked turned ended refusal hands = absurd hands

-- ---- what follows

-- One of the requests is not answered with success.
pub follows_stop : {T : Type 0} (qs : List Request) (Tells : World → T → Type 0) (store : Opened) (refusal : Refusal) (c now : Core)
    (ran_before ran_after : Option (List Run)) (old new : History) → core_state c ≡ core_over store → c.image ≡ store.image → ran_after ≡ ran_before
    → AsksEach qs (Err refusal) c now old new → GoesOn qs Tells store (Err refusal) ran_before ran_after old new
follows_stop {T = T} qs Tells store refusal c now ran_before ran_after old new before_is image_is same asks = record { each = by } where
  by : (I : Image) → IsGood I → HoldsImage I store.image → (folder : Folder) (W V : World) → Kept I folder W V old (core_over store)
      → Follows I folder W V qs Tells (Err refusal) (core_over store) ran_before ran_after old new
  by I good holds folder W V kept =
      let a : AskedBy I folder W V qs (Err refusal) c now old new =
      asks.each I good (subst (HoldsImage I) (sym image_is) holds) folder W V (subst (Kept I folder W V old) (sym before_is) kept) in
      let s : Stops I W qs a.asks.0 a.events = a.asks.2 in
      let whole : a.events ++ [] ≡ a.events = append-nil a.events in
      record {
        asked = a.events;
        turned = [];
        comes = stops_come I W qs Tells a.asks.0 a.events s refusal a.asks.1;
        now = core_state now;
        made = subst (λ (es : List Event). Ran I folder W V es old new (core_over store) (core_state now)) (sym whole)
            (subst (λ (s : CoreState). Ran I folder W V a.events old new s (core_state now)) before_is a.made);
        runs = moves_same same (λ r is. is ∙ sym (ap (λ (es : List Event). (after I W es).runs) whole ∙ stops_runs I W qs a.asks.0 a.events s));
      }

-- All requests and all turns.
pub record EndsAt (I : Image) (folder : Folder) (W V : World) (qs : List Request) (store : Opened) (before_turns : Job) (now : CoreState)
    (ran_before ran_after : Option (List Run)) (old new : History)
    : Type 0 where
  pub asked : List Event
  pub turned : List Event
  pub ended : HasEnded I W qs now.job asked turned
  pub made : Ran I folder W V (asked ++ turned) old new (core_over store) now
  pub runs : RunsBy I W (asked ++ turned) ran_before ran_after
  pub holds : now.faulted ≡ false → (after I (after I W asked) turned).held ≡ now.held
  pub fresh : IsFresh before_turns

pub record EndsFrom (qs : List Request) (store : Opened) (before_turns : Job) (now : CoreState) (ran_before ran_after : Option (List Run))
    (old new : History) : Type 0 where
  pub each : (I : Image) → IsGood I → HoldsImage I store.image → (folder : Folder) (W V : World) → Kept I folder W V old (core_over store)
      → EndsAt I folder W V qs store before_turns now ran_before ran_after old new

pub ends_from : (qs : List Request) (store : Opened) (c mid now : Core) (ran_before ran_mid ran_after : Option (List Run))
    (old between new : History) → core_state c ≡ core_over store → c.image ≡ store.image → ran_mid ≡ ran_before → AsksEach qs (Ok tt) c mid old between
    → Turns mid None now ran_mid ran_after between new → EndsFrom qs store (core_state mid).job (core_state now) ran_before ran_after old new
ends_from qs store c mid now ran_before ran_mid ran_after old between new before_is image_is same asks turns = record { each = by } where
  by : (I : Image) → IsGood I → HoldsImage I store.image → (folder : Folder) (W V : World) → Kept I folder W V old (core_over store)
      → EndsAt I folder W V qs store (core_state mid).job (core_state now) ran_before ran_after old new
  by I good holds folder W V kept =
      let a : AskedBy I folder W V qs (Ok tt) c mid old between =
      asks.each I good (subst (HoldsImage I) (sym image_is) holds) folder W V (subst (Kept I folder W V old) (sym before_is) kept) in
      let X = after I W a.events in
      let t : IsTurned I folder X a.made.other None mid now ran_mid ran_after between new = turns.each I good a.holds folder X a.made.other a.made.kept in
      let e : AreEvents I folder X a.made.other None (core_state mid) (core_state now) ran_mid ran_after between new = t.turns in
      let last : Kept I folder (after I X e.events) e.ran.other new (core_state now) = e.ran.kept in
      record {
        asked = a.events;
        turned = e.events;
        ended = record { succeeds = a.asks; driven = e.form; job_is = sym last.core.job };
        made = subst (λ (s : CoreState). Ran I folder W V (a.events ++ e.events) old new s (core_state now)) before_is
            (ran_more I folder W V a.events e.events old between new (core_state c) (core_state mid) (core_state now) a.made e.ran);
        runs = subst (λ (r : Option (List Run)). RunsBy I W (a.events ++ e.events) r ran_after) same
            (moves_map (λ r s f is. f (is ∙ sym (succeeds_runs I W qs a.events a.asks)) ∙ ap (λ (Y : World). Y.runs) (sym (after-append I W a.events e.events)))
            e.runs);
        holds = λ calm. core_holds I folder (after I X e.events) e.ran.other new (core_state now) last calm;
        fresh = subst IsFresh (sym a.made.kept.core.job) (subst (λ (es : List Event). IsFresh (after I W es).job) (sym a.asks.events_are)
            (asked_fresh I W qs (subst IsFresh kept.core.job tt)));
      }

-- The job failed.
pub follows_failed : {T : Type 0} (qs : List Request) (Tells : World → T → Type 0) (store : Opened) (refusal : Refusal) (job : Job) (now : CoreState)
    (ran_before ran_after : Option (List Run)) (old new : History) → HandsJob now.job (Some refusal) → EndsFrom qs store job now ran_before ran_after old new
    → GoesOn qs Tells store (Err refusal) ran_before ran_after old new
follows_failed qs Tells store refusal job now ran_before ran_after old new hands ends = record {
  each = λ I good holds folder W V kept.
      let e : EndsAt I folder W V qs store job now ran_before ran_after old new = ends.each I good holds folder W V kept in
      record {
        asked = e.asked;
        turned = e.turned;
        comes = job_come I W qs Tells now.job e.asked e.turned e.ended refusal hands;
        now = now;
        made =
            e.made;
        runs = e.runs;
      };
}

-- A fresh job that doesn't run is idle.
idle : (job : Job) → IsFresh job → is_running job ≡ false → job ≡ Idle
idle Idle fresh still = refl
idle (Failed c) fresh still = absurd fresh
idle (Running work) fresh still = absurd (cc still)

done_idle : (before now : Job) → Drives before now (Ok tt) → IsFresh before → now ≡ Idle
done_idle before now (inl same) fresh = same.1 ∙ idle before fresh same.0
done_idle before now (inr is) fresh = is

-- The job is idle.
pub follows_done : {T : Type 0} (qs : List Request) (Tells : World → T → Type 0) (store : Opened) (said : T) (job : Job) (now : CoreState)
    (ran_before ran_after : Option (List Run)) (old new : History) → Drives job now.job (Ok tt) → now.faulted ≡ false
    → ((X : World) → X.held ≡ now.held → X.job ≡ Idle → Tells X said) → EndsFrom qs store job now ran_before ran_after old new
    → GoesOn qs Tells store (Ok said) ran_before ran_after old new
follows_done qs Tells store said job now ran_before ran_after old new drives calm tells ends = record {
  each = λ I good holds folder W V kept.
      let e : EndsAt I folder W V qs store job now ran_before ran_after old new = ends.each I good holds folder W V kept in
      record {
        asked = e.asked;
        turned = e.turned;
        comes = (
          subst (λ (j : Job). HasEnded I W qs j e.asked e.turned) (done_idle job now.job drives e.fresh) e.ended,
          tells _ (e.holds calm)
              (e.ended.job_is ∙ done_idle job now.job drives e.fresh),
        );
        now = now;
        made = e.made;
        runs = e.runs;
      };
}

-- Turns were made: what the core holds then, or why the job failed.
pub follows_driven : (qs : List Request) (store : Opened) (result : Result (Unit {0}) Refusal) (job : Job) (now : Core)
    (ran_before ran_after : Option (List Run)) (old new : History) → Drives job (core_state now).job result → OnOk result ((core_state now).faulted ≡ false)
    → EndsFrom qs store job (core_state now) ran_before ran_after old new → GoesOn qs (λ W done. HoldsAll W now) store result ran_before ran_after old new
follows_driven qs store (Ok done) job now ran_before ran_after old new drives calm ends =
    follows_done qs (λ W done. HoldsAll W now) store done job (core_state now) ran_before ran_after old new drives calm (λ X held job. (held, job)) ends
follows_driven qs store (Err refusal) job now ran_before ran_after old new drives calm ends =
    follows_failed qs (λ W done. HoldsAll W now) store refusal job (core_state now) ran_before ran_after old new drives ends

-- No turn is made where no job runs.
pub no_turns : (c : Core) (ran : Option (List Run)) (old : History) → is_running (core_state c).job ≡ false → Turns c None c ran ran old old
no_turns c ran old still = record {
  each = λ I good holds folder W V kept.
      record {
        turns = record {
          events = [];
          form = ap is_running (sym kept.core.job) ∙ still;
          ran = ran_none I folder W V old (core_state c) kept;
          runs = moves_stay (λ r e. e);
        };
        image = holds;
      };
}
