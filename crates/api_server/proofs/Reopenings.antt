-- A request that comes after a failed call of the disk.
use Rattle.std.proofs.Common.{arith, ◌≡◌, ◌++◌, ℕ, inl, inr, Bool, true, false, List, [], ◌∷◌, Ok, Err, refl, sym, ◌∙◌, ap, subst}
use Rattle.outside.specs.History.{History}
use Rattle.outside.specs.Since.{EachSince}
use Rattle.outside.proofs.Since.{since_map}
use Rattle.settings_machine.specs.declared.cause.Cause.{Cause}
use Rattle.settings_machine.specs.declared.cause.Cause.TheVariants as cause
use Rattle.settings_machine.specs.World as machine
use Rattle.settings_machine.specs.World.{Key, Image, World, Job, is_running}
use Rattle.settings_machine.specs.Opening.{added_keys}
use Rattle.settings_machine.specs.Requests.{Request, DiskFault, NoMemory, NotOpened, status}
use Rattle.settings_machine.specs.Step.{Outcome, Answered, WithoutMemory, Unopened, Faulted, failing, noting, request_next, opened}
use Rattle.settings_machine.specs.Events.{Succeeded, Failing, Opened, Asked, next, after}
use Rattle.settings_machine.specs.Paid.{IsFit, IsGood}
use Rattle.settings_machine.specs.Typed.{IsTypedHeld}
use Rattle.settings_machine.proofs.PaidLaws.{fit_stays}
use Rattle.machine_disk.specs.Kept.{Folder, CoreState, Kept}
use Rattle.machine_disk.specs.Ran.{Ran, Reopens, OpensNot, OnTheWay, Within}
use Rattle.machine_disk.proofs.Runs.{ran_more, opens_ran, unopened_ran, refused_ran, way_of_more, disk_moments}
use Rattle.machine_disk.proofs.Quiet.{ran_unsaid}
use Rattle.machine_disk.proofs.Touched.{own_of_any}
use Rattle.store_open.specs.Laws.{HoldsImage, IsImageOfFolder, IsKeptAt, IsRefusal}
use Rattle.store_open.specs.Opening.{Opens}
use Rattle.store_open.specs.Typed as stored
use Rattle.store_open.specs.Typed.{IsIllTyped, IsBadLive, IsBadPending}
use Rattle.store_open.specs.declared.open_error.OpenError.{OpenError}
use Rattle.store_open.specs.declared.open_error.OpenError.TheVariants as error
use Rattle.store_open.specs.declared.opened.Opened as store
use Rattle.store_open.proofs.MachineRuns.{openings_run, refusals_keep}
use Rattle.api_http.specs.Replies.{refused}
use Rattle.api_http.specs.declared.refusal.Refusal.TheVariants as refusal
use Rattle.event_lines.specs.Lines.{opened_line, request_line, job_lines, changes, is_of_success}
use Rattle.event_lines.specs.Logs.{LogState, Logs, Tells}
use Rattle.event_lines.proofs.Logging.{logs_then, logs_silent}
use Rattle.api_core.specs.Cores.{core_state}
use Rattle.api_core.specs.Reopened.{HoldsOpened, HoldsStill}
use Rattle.api_server.specs.Handled.{sent_of, fault_of, TellsFault, GivesUp, IsNotOpened, IsHandled, Handles, IsOtherStore, IsEvent, Answers}
use Rattle.api_server.specs.declared.handled.Handled.{Handled}
use Rattle.api_server.specs.declared.handled.Handled.TheVariants as came
use Rattle.api_core.specs.declared.serving.Core.{Core}
use Rattle.api_server.proofs.Loggings.{TellsGivenUp, asked_logged, opening_logged, unanswered_logged}

-- A job that doesn't run notes nothing, and doesn't fail.
noting_still : (j : Job) (keys : List Key) → is_running j ≡ false → noting j keys ≡ j
noting_still machine.Idle keys still = refl
noting_still (machine.Failed c) keys still = refl
noting_still (machine.Running w) keys still = absurd (cc still)

failing_still : (j : Job) (c : Cause) → is_running j ≡ false → failing j c ≡ j
failing_still machine.Idle c still = refl
failing_still (machine.Failed d) c still = refl
failing_still (machine.Running w) c still = absurd (cc still)

-- What comes with no opening comes with one that succeeded.
reopens_succeeded : (o : Outcome) → Reopens false o [] → Reopens true o (Opened false Succeeded ∷ [])
reopens_succeeded Answered r = refl
reopens_succeeded WithoutMemory r = (Succeeded, refl)
reopens_succeeded (Unopened at) r = absurd r
reopens_succeeded (Faulted taken) r = (Succeeded, refl, inl refl)

-- What was told of a request that this was sent for.
abbrev pub TellsOf : Core → Request → Handled → Core → LogState → LogState → Type 0
TellsOf c q sent now log log_after =
    Tells (request_line q (changes (core_state c).held q) (sent_of sent).status ++ job_lines (is_running (core_state c).job) (core_state now).job) log log_after

-- Where no call of the disk has failed.
pub calm_handles : (c now : Core) (q : Request) (sent : Handled) (log log_after : LogState) (old new : History) → c.faulted ≡ false → now.image ≡ c.image
    → TellsOf c q sent now log log_after → Answers c q sent now old new → Handles c q sent now log log_after old new
calm_handles c now q sent log log_after old new calm image tells answers = record {
  each = λ I good holds folder still W V kept.
      let e : IsEvent I folder W V q sent old new (core_state c) (core_state now) = answers.event I good holds folder W V kept in record {
        events = Asked q e.outcome ∷ [];
        replied = (request_next I W q e.outcome).reply;
        says = e.says;
        fits = e.fits;
        handled_by = record {
          outcome = e.outcome;
          first = [];
          reopens = subst (λ (b : Bool). Reopens b e.outcome []) (sym calm) e.reopens;
          made =
              refl;
          replied = refl;
        };
        made = e.ran;
        logged = asked_logged I folder W V q sent c now log log_after old new calm kept e tells;
        image = subst (HoldsImage I) (sym image) holds;
      };
}

module _ (I : Image) (W : World) (idle : is_running W.job ≡ false) where
  opened_job : (opened I W false).job ≡ W.job
  unfolding opened
  opened_job = noting_still W.job (added_keys I.defaults.values W.held.live.values) idle

  failed_job : (taken : Bool) → (after I W (Opened false (Failing taken) ∷ [])).job ≡ W.job
  failed_job true = opened_job
  failed_job false = refl

module _ (c : Core) (q : Request) (faulted : c.faulted ≡ true) where
  idle_at : (I : Image) (folder : Folder) (W V : World) (old : History) → Kept I folder W V old (core_state c) → is_running W.job ≡ false
  idle_at I folder W V old kept = ap is_running (sym kept.core.job) ∙ kept.core.still faulted

  -- The store was opened again, and then the request was answered.
  pub opened_handles : (mid_core now : Core) (sent : Handled) (log log_mid log_after : LogState) (old mid new : History) → HoldsOpened c mid_core old mid
      → now.image ≡ mid_core.image → (IsNotOpened sent → ⊥)
      → Tells (opened_line (core_state mid_core).place.version (core_state mid_core).held.owed) log log_mid → TellsOf mid_core q sent now log_mid log_after
      → Answers mid_core q sent now mid new → Handles c q sent now log log_after old new
  opened_handles mid_core now sent log log_mid log_after old mid new again same not_store tells_opening tells answers = record {
    each = λ I good held_image folder still W V kept.
        let s : store.Opened = again.store in
        let state : core_state mid_core ≡ record (core_state c) { place = s.place; held = s.held; faulted = false } = again.state in
        let calm : mid_core.faulted ≡ false = ap (λ (x : CoreState). x.faulted) state in
        let idle = idle_at I folder W V old kept in
        let o = openings_run I good folder (still faulted not_store) W V false (Ok s) old mid kept.disk idle again.opens in
        let one : Ran I folder W V (Opened false Succeeded ∷ []) old mid (core_state c) (core_state mid_core) =
        opens_ran I folder W V false s.place s.held old mid (core_state c) (core_state mid_core) o.0
        (ap (λ (x : CoreState). x.place) state) (ap (λ (x : CoreState). x.held) state)
        (ap (λ (x : CoreState). x.job) state ∙ kept.core.job ∙ sym (opened_job I W idle)) (ap (λ (x : CoreState). x.faulted) state) in
        let holds : HoldsImage I mid_core.image = subst (HoldsImage I) (sym again.image) o.1 in
        let e : IsEvent I folder (after I W (Opened false Succeeded ∷ [])) one.other q sent mid new (core_state mid_core) (core_state now) =
        answers.event I good holds folder (after I W (Opened false Succeeded ∷ [])) one.other one.kept in record {
          events = Opened false Succeeded ∷ Asked q e.outcome ∷ [];
          replied = (request_next I (after I W (Opened false Succeeded ∷ [])) q e.outcome).reply;
          says = e.says;
          fits = e.fits;
          handled_by = record {
            outcome = e.outcome;
            first = Opened false Succeeded ∷ [];
            reopens = subst (λ (b : Bool). Reopens b e.outcome (Opened false Succeeded ∷ [])) (sym faulted) (reopens_succeeded e.outcome e.reopens);
            made = refl;
            replied = refl;
          };
          made = ran_more I folder W V (Opened false Succeeded ∷ []) (Asked q e.outcome ∷ []) old mid new (core_state c) (core_state mid_core) (core_state now)
              one e.ran;
          logged = logs_then I W (Opened false Succeeded ∷ []) (Asked q e.outcome ∷ []) log log_mid log_after
              (opening_logged I folder W one.other mid_core log log_mid mid calm one.kept tells_opening)
              (asked_logged I folder (after I W (Opened false Succeeded ∷ [])) one.other q sent mid_core now log_mid log_after mid new calm one.kept e tells);
          image = subst (HoldsImage I) (sym same) holds;
        };
  }

  -- ---- an opening that failed

  module _ (old new : History) (I : Image) (good : IsGood I) (holds : HoldsImage I c.image) (folder : Folder) (W V : World)
      (kept : Kept I folder W V old (core_state c))
      (n : OpensNot I folder W V false old new) where
    idle : is_running W.job ≡ false
    idle = idle_at I folder W V old kept

    abbrev X : World
    X = after I W (Opened false (Failing n.taken) ∷ [])

    fit_one : IsFit I X
    fit_one = fit_stays I good W kept.fit (Opened false (Failing n.taken) ∷ []) refl

    idle_one : is_running X.job ≡ false
    idle_one = ap is_running (failed_job I W idle n.taken) ∙ idle

    job_one : (core_state c).job ≡ X.job
    job_one = kept.core.job ∙ sym (failed_job I W idle n.taken)

    not_opened : Ran I folder W V (Opened false (Failing n.taken) ∷ []) old new (core_state c) (core_state c)
    not_opened =
        unopened_ran I folder W V false old new (core_state c) (core_state c) n kept.format fit_one job_one faulted (kept.core.still faulted)

    faulted_after_it : Ran I folder X not_opened.other (Asked q (Faulted false) ∷ []) new new (core_state c) (core_state c)
    unfolding request_next
    faulted_after_it =
        let one : Ran I folder W V (Opened false (Failing n.taken) ∷ []) old new (core_state c) (core_state c) = not_opened in
        let more : IsFit I (next I X (Asked q (Faulted false))) = fit_stays I good X fit_one (Asked q (Faulted false) ∷ []) refl in
        ran_unsaid I folder X not_opened.other new (core_state c) not_opened.kept (Asked q (Faulted false)) (core_state c)
        (record { version = refl; format = refl; held = refl; etc = refl }) more
        (job_one ∙ sym (failing_still X.job cause.Disk idle_one)) refl refl refl (sym faulted) refl (λ f. kept.core.still f)

    memory_after_it : Ran I folder X not_opened.other (Asked q WithoutMemory ∷ []) new new (core_state c) (core_state c)
    unfolding request_next
    memory_after_it =
        ran_unsaid I folder X not_opened.other new (core_state c) not_opened.kept (Asked q WithoutMemory) (core_state c)
        (record { version = refl; format = refl; held = refl; etc = refl }) fit_one job_one refl refl refl refl refl (λ f. kept.core.still f)

    -- It was told with this status, which is none of success: so no keys are.
    given_up_logged : (o : Outcome) (number : ℕ) → is_of_success number ≡ false → number ≡ status (request_next I X q o).reply
        → (request_next I X q o).world.job ≡ X.job → (log log_after : LogState)
        → Tells (request_line q [] number ++ job_lines false (core_state c).job) log log_after
        → Logs I W (Opened false (Failing n.taken) ∷ Asked q o ∷ []) log log_after
    given_up_logged o number unsuccessful number_is job log log_after tells =
        logs_then I W (Opened false (Failing n.taken) ∷ []) (Asked q o ∷ []) log log log_after
        (logs_silent I W (Opened false (Failing n.taken)) log refl)
        (unanswered_logged I X q o number (core_state c).job idle_one job_one unsuccessful number_is job log log_after tells)

    failed_handled : (log log_after : LogState) → TellsGivenUp c q came.DiskFault log log_after
        → IsHandled I folder W V q came.DiskFault c c log log_after old new
    unfolding request_next
    failed_handled log log_after tells = record {
      events = Opened false (Failing n.taken) ∷ Asked q (Faulted false) ∷ [];
      replied = DiskFault;
      says = refl;
      fits = refl;
      handled_by = record {
        outcome = Faulted false;
        first = Opened false (Failing n.taken) ∷ [];
        reopens = subst (λ (b : Bool). Reopens b (Faulted false) (Opened false (Failing n.taken) ∷ [])) (sym faulted) (Failing n.taken, refl, inr refl);
        made = refl;
        replied = refl;
      };
      made = ran_more I folder W V (Opened false (Failing n.taken) ∷ []) (Asked q (Faulted false) ∷ []) old new new (core_state c) (core_state c) (core_state c)
          not_opened faulted_after_it;
      logged = given_up_logged (Faulted false) 500 refl refl (failing_still X.job cause.Disk idle_one) log log_after tells;
      image = holds;
    }

    memory_handled : (log log_after : LogState) → TellsGivenUp c q came.Memory log log_after → IsHandled I folder W V q came.Memory c c log log_after old new
    unfolding request_next
    memory_handled log log_after tells = record {
      events = Opened false (Failing n.taken) ∷ Asked q WithoutMemory ∷ [];
      replied = NoMemory;
      says = refl;
      fits = refl;
      handled_by = record {
        outcome = WithoutMemory;
        first = Opened false (Failing n.taken) ∷ [];
        reopens = subst (λ (b : Bool). Reopens b WithoutMemory (Opened false (Failing n.taken) ∷ [])) (sym faulted) (Failing n.taken, refl);
        made = refl;
        replied = refl;
      };
      made = ran_more I folder W V (Opened false (Failing n.taken) ∷ []) (Asked q WithoutMemory ∷ []) old new new (core_state c) (core_state c) (core_state c)
          not_opened memory_after_it;
      logged = given_up_logged WithoutMemory 503 refl refl refl log log_after tells;
      image = holds;
    }

  -- The disk or memory failed it.
  failed_handles : (log log_after : LogState) (old new : History) → TellsGivenUp c q came.DiskFault log log_after → Opens false (Err error.Failed) old new
      → Handles c q came.DiskFault c log log_after old new
  failed_handles log log_after old new tells opens = record {
    each = λ I good holds folder still W V kept.
        failed_handled old new I good holds folder W V kept
        (openings_run I good folder (still faulted (λ is. is)) W V false (Err error.Failed) old new kept.disk (idle_at I folder W V old kept) opens)
        log log_after tells;
  }

  memory_handles : (log log_after : LogState) (old new : History) → TellsGivenUp c q came.Memory log log_after → Opens false (Err error.Memory) old new
      → Handles c q came.Memory c log log_after old new
  memory_handles log log_after old new tells opens = record {
    each = λ I good holds folder still W V kept.
        memory_handled old new I good holds folder W V kept
        (openings_run I good folder (still faulted (λ is. is)) W V false (Err error.Memory) old new kept.disk (idle_at I folder W V old kept) opens)
        log log_after tells;
  }

  -- ---- one that was refused

  module _ (e : OpenError) (is : IsRefusal e) (log log_after : LogState) (old new : History) (opens : Opens false (Err e) old new) where
    kept_at : (I : Image) (folder : Folder) (W V : World) → Kept I folder W V old (core_state c) → IsKeptAt I folder W V old new
    kept_at I folder W V kept = refusals_keep I folder W V false e old new kept.disk is opens

    -- The reply tells what is at fault,
    told_handles : (at : List ℕ) → TellsGivenUp c q (came.NotOpened (refused (refusal.Store at))) log log_after
        → Handles c q (came.NotOpened (refused (refusal.Store at))) c log log_after old new
    unfolding request_next
    told_handles at tells = record {
      each = λ I good holds folder still W V kept.
          let k : IsKeptAt I folder W V old new = kept_at I folder W V kept in record {
            events = Asked q (Unopened at) ∷ [];
            replied = NotOpened at;
            says = refl;
            fits = tt;
            handled_by = record {
              outcome = Unopened at;
              first = [];
              reopens = subst (λ (b : Bool). Reopens b (Unopened at) []) (sym faulted) refl;
              made = refl;
              replied = refl;
            };
            made = refused_ran I folder W V q at old new (core_state c) faulted kept k.disk k.moments k.touches;
            logged = unanswered_logged I W q (Unopened at) 500 (core_state c).job (idle_at I folder W V old kept) kept.core.job refl refl refl log log_after
                tells;
            image = holds;
          };
    }

    -- or it ran out of memory for it: then it counts as an opening that failed as it ran out of memory, and was not taken.
    untold_handles : TellsGivenUp c q came.Memory log log_after → Handles c q came.Memory c log log_after old new
    untold_handles tells = record {
      each = λ I good holds folder still W V kept.
          let k : IsKeptAt I folder W V old new = kept_at I folder W V kept in
          let way : EachSince (OnTheWay I W V (Opened false (Failing false) ∷ [])) old new = since_map (OnTheWay I W V [])
          (OnTheWay I W V (Opened false (Failing false) ∷ [])) old new (λ t way. way_of_more I W V [] (Opened false (Failing false) ∷ []) t way) k.moments
          in
          memory_handled old new I good holds folder W V kept (record {
            taken = false;
            other = W;
            late = Within [] (Opened false (Failing false) ∷ []) refl refl refl;
            disk = k.disk;
            moments = way;
            keeps = disk_moments I folder W V (Opened false (Failing false)) old new W kept.disk k.disk
                (Within [] (Opened false (Failing false) ∷ []) refl refl refl) way;
            touches = own_of_any I (Opened false (Failing false) ∷ []) old new k.touches;
          }) log log_after tells;
    }

    refusal_handles : (sent : Handled) → TellsFault e sent → TellsGivenUp c q sent log log_after → Handles c q sent c log log_after old new
    refusal_handles sent (inl reported) tells = subst (λ (s : Handled). Handles c q s c log log_after old new) (sym reported)
        (told_handles (fault_of e) (subst (λ (s : Handled). TellsGivenUp c q s log log_after) reported tells))
    refusal_handles sent (inr memory) tells = subst (λ (s : Handled). Handles c q s c log log_after old new) (sym memory)
        (untold_handles (subst (λ (s : Handled). TellsGivenUp c q s log log_after) memory tells))

  module _ (sent : Handled) (log log_after : LogState) (tells : TellsGivenUp c q sent log log_after) (old new : History) where
    given_up_handles : (e : OpenError) → GivesUp e sent → Opens false (Err e) old new → Handles c q sent c log log_after old new
    given_up_handles error.Failed gives opens = subst (λ (s : Handled). Handles c q s c log log_after old new) (sym gives)
        (failed_handles log log_after old new (subst (λ (s : Handled). TellsGivenUp c q s log log_after) gives tells) opens)
    given_up_handles error.Memory gives opens = subst (λ (s : Handled). Handles c q s c log log_after old new) (sym gives)
        (memory_handles log log_after old new (subst (λ (s : Handled). TellsGivenUp c q s log log_after) gives tells) opens)
    given_up_handles error.NoStore gives opens = refusal_handles error.NoStore tt log log_after old new opens sent gives tells
    given_up_handles (error.BadLink path) gives opens = refusal_handles (error.BadLink path) tt log log_after old new opens sent gives tells
    given_up_handles (error.BadJournal path) gives opens = refusal_handles (error.BadJournal path) tt log log_after old new opens sent gives tells
    given_up_handles (error.Damaged path) gives opens = refusal_handles (error.Damaged path) tt log log_after old new opens sent gives tells
    given_up_handles (error.OldFormat directory) gives opens = refusal_handles (error.OldFormat directory) tt log log_after old new opens sent gives tells
    given_up_handles (error.BadImage file kind at) gives opens = refusal_handles (error.BadImage file kind at) tt log log_after old new opens sent gives tells
    given_up_handles (error.IllTyped key) gives opens = refusal_handles (error.IllTyped key) tt log log_after old new opens sent gives tells

    -- The request is given up, and the core is as before.
    pub unopened_handles : (e : OpenError) (now : Core) → GivesUp e sent → HoldsStill c e now old new → Handles c q sent now log log_after old new
    unopened_handles e now gives still =
        subst (λ (x : Core). Handles c q sent x log log_after old new) (sym still.same) (given_up_handles e gives still.opens)

  -- ---- where the image is as before

  -- No value is refused where all are typed.
  no_ill : (I : Image) (W : World) (key : Key) → IsTypedHeld I.types W.held → IsIllTyped I.types W.held key → ⊥
  no_ill I W key typed (stored.live first) = by first.bad where
    by : IsBadLive I.types W.held key → ⊥
    by bad = bad.untyped (typed.settings.typed key bad.value bad.there bad.setting)
  no_ill I W key typed (stored.pending settings first) = by first.of.bad where
    by : IsBadPending I.types W.held first.tx key → ⊥
    by bad = bad.unfit (typed.pending first.tx key bad.value bad.there)

  never : (e : OpenError) → IsRefusal e → (old new : History) → Opens false (Err e) old new → (I : Image) → IsGood I → (folder : Folder)
      → IsImageOfFolder I folder
      → (W V : World) → Kept I folder W V old (core_state c) → ⊥
  never error.Failed is old new opens I good folder of W V kept = is
  never error.Memory is old new opens I good folder of W V kept = is
  never (error.OldFormat directory) is old new opens I good folder of W V kept =
      let run = openings_run I good folder of W V false (Err (error.OldFormat directory)) old new kept.disk (idle_at I folder W V old kept) opens in
      let format : W.format ≡ 2 = kept.format in let old_format : W.format ≡ 1 = run.0 in omega (arith, format, old_format)
  never (error.IllTyped key) is old new opens I good folder of W V kept =
      let run = openings_run I good folder of W V false (Err (error.IllTyped key)) old new kept.disk (idle_at I folder W V old kept) opens in
      no_ill I W key kept.fit.typed run.0
  never error.NoStore is old new opens I good folder of W V kept =
      openings_run I good folder of W V false (Err error.NoStore) old new kept.disk (idle_at I folder W V old kept) opens
  never (error.BadLink path) is old new opens I good folder of W V kept =
      openings_run I good folder of W V false (Err (error.BadLink path)) old new kept.disk (idle_at I folder W V old kept) opens
  never (error.BadJournal path) is old new opens I good folder of W V kept =
      openings_run I good folder of W V false (Err (error.BadJournal path)) old new kept.disk (idle_at I folder W V old kept) opens
  never (error.Damaged path) is old new opens I good folder of W V kept =
      openings_run I good folder of W V false (Err (error.Damaged path)) old new kept.disk (idle_at I folder W V old kept) opens
  never (error.BadImage file kind at) is old new opens I good folder of W V kept =
      openings_run I good folder of W V false (Err (error.BadImage file kind at)) old new kept.disk (idle_at I folder W V old kept) opens

  -- Nothing is refused there.
  pub refuses_other : (e : OpenError) → IsRefusal e → (old new : History) → Opens false (Err e) old new → IsOtherStore c old new
  refuses_other e is old new opens = record { other = λ I good holds folder of W V kept. never e is old new opens I good folder of W V kept }
