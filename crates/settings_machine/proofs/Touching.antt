-- A job touches the files of what was owed when it began, and its commands come after them.
use Rattle.std.proofs.Common.{◌≡◌, ◌⊎◌, inl, inr, ⊎_elim, ℕ, Bool, true, false, ◌&&◌, if◌then◌else◌, List, [], ◌∷◌, Ok, Err, refl, sym, ◌∙◌, ap, subst}
use Rattle.std.specs.Prelude.{Option, Some}
use Rattle.std.specs.FinMap.{get}
use Rattle.std.specs.Ordering.{eq_by_cmp}
use Rattle.std.proofs.lemmas.Bool.{and_parts}
use Rattle.outside.specs.Names.{Names, path_cmp}
use Rattle.outside.specs.Spawner.{Run}
use Rattle.settings_tree.specs.declared.entry.Owed.{Owed}
use Rattle.settings_tree.specs.declared.entry.Owed.TheVariants.{Keys}
use Rattle.metadata_links.specs.Links.{files_of}
use Rattle.template_eval.specs.Rendered.{Rendered}
use Rattle.settings_machine.specs.World.{Among, Image, World, Files, Work, Job, Idle, Failed, Running, is_running, path_of, rendered}
use Rattle.settings_machine.specs.Step.{Answer, Fine, NoRoom, FileFault, NoSpawn, SyncFault, OwedFault, with_file, opened}
use Rattle.settings_machine.specs.Step.{wrote, file_turn, Command, command_turn, last_turn, after_files_turn, work_turn, job_turn, turn_next}
use Rattle.settings_machine.specs.Events.{Event, Opening, Succeeded, Failing, Opened, Asked, Unread, Turned, Began, Moved, Forgot}
use Rattle.settings_machine.specs.Events.{opening_next, next, after, is_served, are_served}
use Rattle.settings_machine.specs.Covered.{IsCovered}
use Rattle.settings_machine.specs.Paid.{IsCurrent, RunningPays, IsPaid, IsFit, IsGood}
use Rattle.settings_machine.specs.Jobs.{Ending, Course, is_last, run_of, ending_of, followed, begun_by, next_courses, courses}
use Rattle.settings_machine.specs.Touched.{IsPathFor, IsJobPath, JobsTouchTheirFiles, FilesComeFirst}
use Rattle.settings_machine.proofs.Elements.{path_tied}
use Rattle.settings_machine.proofs.Answering.{Keeps, request_keeps}
use Rattle.settings_machine.proofs.Lasting.{put_other}
use Rattle.settings_machine.proofs.PaidLaws.{fit_stays, files_stay_paid, due_owed}
use Rattle.settings_machine.proofs.Newest.{Tracks, none_tracked, tracked, next_follows}

-- ---- jobs stay known by what was owed when they began

-- A job of the list has this owed.
abbrev HasOwed : List Course → Owed → Type 0
HasOwed cs o = (d : Course) × Among cs d × (d.owed ≡ o)

had_owed : (c : Course) (cs : List Course) (o : Owed) → HasOwed cs o → HasOwed (c ∷ cs) o
had_owed c cs o has = (has.0, inr has.1, has.2)

followed_has : (b : Bool) (runs : List Run) (ending : Ending) (cs : List Course) (c : Course) → Among cs c → HasOwed (followed b runs ending cs) c.owed
followed_has true runs ending [] c at = absurd at
followed_has true runs ending (d ∷ cs) c (inl here) = (_, inl refl, ap (λ (x : Course). x.owed) (sym here))
followed_has true runs ending (d ∷ cs) c (inr there) = (c, inr there, refl)
followed_has false runs ending cs c at = (c, at, refl)

begun_has : (j k : Job) (b : Bool) (p o : Owed) (cs : List Course) → HasOwed cs o → HasOwed (begun_by j k b p cs) o
begun_has Idle Idle b p o cs has = has
begun_has Idle (Failed d) b p o cs has = has
begun_has Idle (Running w) b p o cs has = had_owed _ cs o has
begun_has (Failed c) Idle b p o cs has = has
begun_has (Failed c) (Failed d) b p o cs has = has
begun_has (Failed c) (Running w) b p o cs has = had_owed _ cs o has
begun_has (Running v) Idle b p o cs has = has
begun_has (Running v) (Failed d) b p o cs has = has
begun_has (Running v) (Running w) true p o cs has = had_owed _ cs o has
begun_has (Running v) (Running w) false p o cs has = has

module _ (I : Image) where
  next_has : (W : World) (e : Event) (cs : List Course) (c : Course) → Among cs c → HasOwed (next_courses I W e cs) c.owed
  next_has W e cs c at = begun_has W.job (next I W e).job (is_last e W.job) (next I W e).held.owed c.owed
      (followed (is_running W.job) (run_of e W.job) (ending_of (is_last e W.job) (next I W e).job) cs)
      (followed_has (is_running W.job) (run_of e W.job) (ending_of (is_last e W.job) (next I W e).job) cs c at)

  after_has : (W : World) (events : List Event) (cs : List Course) (c : Course) → Among cs c → HasOwed (courses I W events cs) c.owed
  after_has W [] cs c at = (c, at, refl)
  after_has W (e ∷ es) cs c at =
      let d = next_has W e cs c at in
      let last = after_has (next I W e) es (next_courses I W e cs) d.0 d.1 in
      (last.0, last.1, last.2 ∙ d.2)

  -- ---- what an event does to a path

  -- The path is that of a file that a running job has still to do.
  record IsToDo (j : Job) (path : Names) : Type 0 where
    work : Work
    running : j ≡ Running work
    file : List ℕ
    to_do : Among work.files file
    path_is : path ≡ path_of I file

  abbrev Touches : World → World → Names → Type 0
  Touches W N path = (get N.etc path ≡ get W.etc path) ⊎ IsToDo W.job path

  put_touches : (W : World) (w : Work) (f : List ℕ) (fs : List (List ℕ)) (left : Option (List ℕ)) (path : Names) → w.files ≡ f ∷ fs
      → (get (with_file W.etc (path_of I f) left) path ≡ get W.etc path) ⊎ IsToDo (Running w) path
  put_touches W w f fs left path is = by (eq_by_cmp path_cmp path (path_of I f)) refl where
    by : (b : Bool) → eq_by_cmp path_cmp path (path_of I f) ≡ b
        → (get (with_file W.etc (path_of I f) left) path ≡ get W.etc path) ⊎ IsToDo (Running w) path
    by true same = inr (record {
      work = w;
      running = refl;
      file = f;
      to_do = subst (λ (l : List (List ℕ)). Among l f) (sym is) (inl refl);
      path_is = path_tied path (path_of I f) same;
    })
    by false other = inl (put_other W.etc (path_of I f) path left other)

  wrote_touches : (W : World) (w : Work) (f : List ℕ) (fs : List (List ℕ)) (r : Rendered) (path : Names) → w.files ≡ f ∷ fs
      → (get (wrote I W f fs w r).etc path ≡ get W.etc path) ⊎ IsToDo (Running w) path
  wrote_touches W w f fs (Ok bytes) path is = put_touches W w f fs (Some bytes) path is
  wrote_touches W w f fs (Err e) path is = inl refl

  file_touches : (W : World) (w : Work) (f : List ℕ) (fs : List (List ℕ)) (a : Answer) (path : Names) → w.files ≡ f ∷ fs
      → (get (file_turn I W f fs w a).etc path ≡ get W.etc path) ⊎ IsToDo (Running w) path
  file_touches W w f fs (Fine status) path is = wrote_touches W w f fs (rendered I f W.held.live) path is
  file_touches W w f fs NoRoom path is = inl refl
  file_touches W w f fs (FileFault left) path is = put_touches W w f fs left path is
  file_touches W w f fs NoSpawn path is = inl refl
  file_touches W w f fs SyncFault path is = inl refl
  file_touches W w f fs (OwedFault stored) path is = inl refl

  command_etc : (W : World) (c : Command) (cs : List Command) (w : Work) (a : Answer) → (command_turn W c cs w a).etc ≡ W.etc
  command_etc W c cs w (Fine status) = refl
  command_etc W c cs w NoRoom = refl
  command_etc W c cs w (FileFault left) = refl
  command_etc W c cs w NoSpawn = refl
  command_etc W c cs w SyncFault = refl
  command_etc W c cs w (OwedFault stored) = refl

  last_etc : (W : World) (w : Work) (a : Answer) → (last_turn I W w a).etc ≡ W.etc
  last_etc W w (Fine status) = refl
  last_etc W w NoRoom = refl
  last_etc W w (FileFault left) = refl
  last_etc W w NoSpawn = refl
  last_etc W w SyncFault = refl
  last_etc W w (OwedFault stored) = refl

  after_files_etc : (W : World) (cs : List Command) (w : Work) (a : Answer) → (after_files_turn I W cs w a).etc ≡ W.etc
  after_files_etc W [] w a = last_etc W w a
  after_files_etc W (c ∷ cs) w a = command_etc W c cs w a

  work_touches : (W : World) (w : Work) (todo : List (List ℕ)) (a : Answer) (path : Names) → w.files ≡ todo
      → (get (work_turn I W todo w a).etc path ≡ get W.etc path) ⊎ IsToDo (Running w) path
  work_touches W w [] a path is = inl (ap (λ (m : Files). get m path) (after_files_etc W w.commands w a))
  work_touches W w (f ∷ fs) a path is = file_touches W w f fs a path is

  turn_touches : (W : World) (a : Answer) (path : Names) → Touches W (turn_next I W a) path
  unfolding turn_next
  turn_touches W a path = by W.job where
    by : (j : Job) → (get (job_turn I W j a).etc path ≡ get W.etc path) ⊎ IsToDo j path
    by Idle = inl refl
    by (Failed c) = inl refl
    by (Running w) = work_touches W w w.files a path refl

  opening_etc : (W : World) (boot : Bool) (o : Opening) → (opening_next I W boot o).etc ≡ W.etc
  unfolding opened
  opening_etc W boot Succeeded = refl
  opening_etc W boot (Failing taken) = by taken where
    by : (b : Bool) → (if b then opened I W boot else W).etc ≡ W.etc
    by true = refl
    by false = refl

  next_touches : (W : World) (e : Event) (path : Names) → Touches W (next I W e) path
  next_touches W (Opened boot o) path = inl (ap (λ (m : Files). get m path) (opening_etc W boot o))
  next_touches W (Asked q o) path = let k : Keeps I W (next I W (Asked q o)) = request_keeps I W q o in inl (ap (λ (m : Files). get m path) k.etc)
  next_touches W (Unread why) path = inl refl
  next_touches W (Turned a) path = turn_touches W a path
  next_touches W (Began version) path = inl refl
  next_touches W (Moved version held) path = inl refl
  next_touches W (Forgot keys) path = inl refl

  -- ---- a job touches its files

  -- What a running job has to do is of what was owed when it began.
  abbrev DoesItsOwn : World → Owed → Work → Type 0
  DoesItsOwn W o w = (f : List ℕ) → Among w.files f → Among (files_of I.manifest o) f

  next_own : (W : World) (e : Event) (cs : List Course) → Tracks DoesItsOwn W W.job cs
      → Tracks DoesItsOwn (next I W e) (next I W e).job (next_courses I W e cs)
  next_own W e cs known = tracked I DoesItsOwn W (next I W e) e W.job (next I W e).job (next I W e).held.owed cs (next_follows I W e)
      (λ w is files f at. subst (λ (l : List (List ℕ)). Among l f) files at)
      (λ v w p was is fewer before f at. before f (fewer f at))
      known

  -- So a file that is to do is one of a job of the list.
  to_do_of : (W : World) (j : Job) (cs : List Course) (path : Names) → Tracks DoesItsOwn W j cs → IsToDo j path → IsJobPath I cs path
  to_do_of W Idle cs path known left = absurd (cc left.running)
  to_do_of W (Failed c) cs path known left = absurd (cc left.running)
  to_do_of W (Running w) [] path known left = absurd known
  to_do_of W (Running w) (c ∷ cs) path known left =
      let same : w ≡ left.work = cc in
      record {
        job = c;
        among = inl refl;
        path_for = record {
          file = left.file;
          listed = known left.file (subst (λ (v : Work). Among v.files left.file) (sym same) left.to_do);
          path_is = left.path_is;
        };
      }

  later_path : (W : World) (events : List Event) (cs : List Course) (path : Names) → IsJobPath I cs path → IsJobPath I (courses I W events cs) path
  later_path W events cs path is =
      let d = after_has W events cs is.job is.among in
      record { job = d.0; among = d.1; path_for = subst (λ (o : Owed). IsPathFor I o path) (sym d.2) is.path_for }

  touched : (W : World) (events : List Event) (cs : List Course) (path : Names) → Tracks DoesItsOwn W W.job cs
      → (get (after I W events).etc path ≡ get W.etc path) ⊎ IsJobPath I (courses I W events cs) path
  touched W [] cs path known = inl refl
  touched W (e ∷ es) cs path known = ⊎_elim
      (λ same. ⊎_elim (λ first. inl (same ∙ first)) (λ left. inr (later_path W (e ∷ es) cs path (to_do_of W W.job cs path known left))) (next_touches W e path))
      (λ later. inr later)
      (touched (next I W e) es (next_courses I W e cs) path (next_own W e cs known))

pub jobs_touch_their_files : JobsTouchTheirFiles
jobs_touch_their_files I W rests events path = touched I W events [] path (none_tracked (DoesItsOwn I) W W.job [] rests)

-- ---- a job's files come first

module _ (I : Image) (image : IsGood I) where
  -- Each covered file of what was owed when the job began is paid.
  abbrev PaysItsOwn : World → Owed → Work → Type 0
  PaysItsOwn W o w = (f : List ℕ) → IsCovered I f → Among (files_of I.manifest o) f → IsPaid I W f

  begins_paid : (N : World) → IsFit I N → (w : Work) → N.job ≡ Running w → w.files ≡ files_of I.manifest N.held.owed → PaysItsOwn N N.held.owed w
  begins_paid N fit w is files f covered at = record {
    now = inr (subst (λ (o : Owed). Among (files_of I.manifest o) f) (sym (due_owed I N.held fit.image)) at);
    job = subst (RunningPays I N f) (sym is) (inr (inl (subst (λ (l : List (List ℕ)). Among l f) (sym files) at)));
  }

  next_fit : (W : World) (e : Event) → is_served e ≡ true → IsFit I W → IsFit I (next I W e)
  next_fit W e served fit = fit_stays I image W fit (e ∷ []) (ap (λ (b : Bool). b && true) served)

  next_paid : (W : World) (e : Event) (cs : List Course) → is_served e ≡ true → IsFit I W → Tracks PaysItsOwn W W.job cs
      → Tracks PaysItsOwn (next I W e) (next I W e).job (next_courses I W e cs)
  next_paid W e cs served fit known = tracked I PaysItsOwn W (next I W e) e W.job (next I W e).job (next I W e).held.owed cs (next_follows I W e)
      (λ w is files. begins_paid (next I W e) (next_fit W e served fit) w is files)
      (λ v w p was is fewer before f covered at. files_stay_paid I image W fit (e ∷ []) (ap (λ (b : Bool). b && true) served) f covered
      (inl (before f covered at)))
      known

  after_paid : (W : World) (events : List Event) (cs : List Course) → are_served events ≡ true → IsFit I W → Tracks PaysItsOwn W W.job cs
      → Tracks PaysItsOwn (after I W events) (after I W events).job (courses I W events cs)
  after_paid W [] cs served fit known = known
  after_paid W (e ∷ es) cs served fit known =
      let both = and_parts (is_served e) (are_served es) served in
      after_paid (next I W e) es (next_courses I W e cs) both.1 (next_fit W e both.0 fit) (next_paid W e cs both.0 fit known)

  -- Where a paying job has no file left, a file is current or one of what it noted.
  none_left : (X : World) (w : Work) (f : List ℕ) → X.job ≡ Running w → w.files ≡ [] → IsPaid I X f
      → IsCurrent I X f ⊎ Among (files_of I.manifest (Keys w.since)) f
  none_left X w f is none paid =
      let pays : RunningPays I X f (Running w) = subst (RunningPays I X f) is paid.job in
      ⊎_elim (λ current. inl current)
      (⊎_elim (λ left. absurd (subst (λ (l : List (List ℕ)). Among l f) none left)) (λ since. inr since))
      pays

pub files_come_first : FilesComeFirst
files_come_first I image W fit rests events served w is none job before jobs f covered at =
    let X = after I W events in
    let known = after_paid I image W events [] served fit (none_tracked (PaysItsOwn I image) W W.job [] rests) in
    let one = subst (λ (j : Job). Tracks (PaysItsOwn I image) X j (courses I W events [])) is known in
    let paid = subst (Tracks (PaysItsOwn I image) X (Running w)) jobs one in
    none_left I image X w f is none (paid f covered at)
