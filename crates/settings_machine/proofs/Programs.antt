-- The programs that are run are those of the jobs, and the law of restarts.
use Rattle.std.proofs.Common.{◌≡◌, ℕ, Bool, true, false, if◌then◌else◌, List, [], ◌∷◌, ◌++◌, Option}
use Rattle.std.proofs.Common.{Some, None, Ok, Err, refl, sym, ◌∙◌, ap, append_assoc}
use Rattle.std.proofs.lemmas.List.{append-nil}
use Rattle.std.specs.FinMap.{FinMap, get}
use Rattle.key_names.specs.Order.{key_cmp}
use Rattle.json_trees.specs.declared.pending.Pending.{Pending}
use Rattle.outside.specs.Spawner.{Run}
use Rattle.settings_tree.specs.declared.entry.Owed.{Owed}
use Rattle.template_eval.specs.Rendered.{Rendered}
use Rattle.settings_machine.specs.World.{Image, World, Work, Job, Idle, Failed, Running, is_running, rendered}
use Rattle.settings_machine.specs.Typed.{Wanted, first_wanted}
use Rattle.settings_machine.specs.Requests.{Request, Root, OsNames, Settings, SettingsAt, SettingsBelow}
use Rattle.settings_machine.specs.Requests.{Patch, Services, ConfigurationFiles, Affected, Pends, DropTx, TxList}
use Rattle.settings_machine.specs.Requests.{Commit, Apply, CommitAndApply, JobNow}
use Rattle.settings_machine.specs.Requests.{Set, ApplyAll, Guarded, Plan, PlanFile, Store, Verify}
use Rattle.settings_machine.specs.Step.{Outcome, Answered, WithoutMemory, Unopened, Faulted, Answer, Fine, NoRoom, FileFault, NoSpawn, SyncFault, OwedFault}
use Rattle.settings_machine.specs.Step.{patch_next, commit_next, commit_and_apply_next, set_next, changed_by, answered, request_next}
use Rattle.settings_machine.specs.Step.{wrote, Command, after_files_turn, work_turn, job_turn, turn_next, opened}
use Rattle.settings_machine.specs.Events.{Event, Opening, Succeeded, Failing, Opened, Asked, Unread, Turned, Began, Moved, Forgot, opening_next, next, after}
use Rattle.settings_machine.specs.Jobs.{Ending, Course, run_at, run_of, is_last, ending_of, followed, begun_by, next_courses}
use Rattle.settings_machine.specs.Jobs.{courses, runs_in, IsHistoryOf, JobsRunInOrder}
use Rattle.settings_machine.proofs.Guards.{guarded_one}
use Rattle.settings_machine.proofs.Restarts.{next_history, after_history}

module _ (I : Image) where
  -- ---- the programs of all jobs

  no_run : (W : World) (runs : List Run) → runs ≡ W.runs → runs ≡ W.runs ++ []
  no_run W runs same = same ∙ sym (append-nil W.runs)

  answered_runs : (W : World) (q : Request) → (answered I W q).world.runs ≡ W.runs
  answered_runs W Root = refl
  answered_runs W OsNames = refl
  answered_runs W Settings = refl
  answered_runs W (SettingsAt list) = refl
  answered_runs W (SettingsBelow key) = refl
  answered_runs W (Patch tx pairs) = by (first_wanted I.types pairs) where
    by : (o : Option Wanted) → (patch_next W tx pairs o).world.runs ≡ W.runs
    by None = refl
    by (Some wanted) = refl
  answered_runs W (Services names) = refl
  answered_runs W (ConfigurationFiles names) = refl
  answered_runs W (Affected list) = refl
  answered_runs W (Pends tx) = refl
  answered_runs W (DropTx tx) = refl
  answered_runs W TxList = refl
  answered_runs W (Commit tx) = by (get W.held.pending tx) where
    by : (o : Option (FinMap key_cmp Pending)) → (commit_next W tx o).world.runs ≡ W.runs
    by None = refl
    by (Some p) = refl
  answered_runs W Apply = refl
  answered_runs W (CommitAndApply tx) = by (get W.held.pending tx) where
    by : (o : Option (FinMap key_cmp Pending)) → (commit_and_apply_next I W tx o).world.runs ≡ W.runs
    by None = refl
    by (Some p) = refl
  answered_runs W JobNow = refl
  answered_runs W (Set pairs) = by (first_wanted I.types pairs) where
    by : (o : Option Wanted) → (set_next I W pairs o).world.runs ≡ W.runs
    by None = refl
    by (Some wanted) = refl
  answered_runs W ApplyAll = refl
  answered_runs W (Guarded q) =
      guarded_one I (λ (X : World). X.runs ≡ W.runs) W (changed_by W q) (answered I W q) refl (answered_runs W q)
  answered_runs W (Plan tx) = refl
  answered_runs W (PlanFile file tx) = refl
  answered_runs W Store = refl
  answered_runs W Verify = refl

  pub request_runs : (W : World) (q : Request) (o : Outcome) → (request_next I W q o).world.runs ≡ W.runs
  unfolding request_next
  request_runs W q Answered = answered_runs W q
  request_runs W q WithoutMemory = refl
  request_runs W q (Unopened at) = refl
  request_runs W q (Faulted taken) = refl

  pub opening_runs : (W : World) (boot : Bool) (o : Opening) → (opening_next I W boot o).runs ≡ W.runs
  unfolding opened
  opening_runs W boot Succeeded = refl
  opening_runs W boot (Failing taken) = by taken where
    by : (b : Bool) → (if b then opened I W boot else W).runs ≡ W.runs
    by true = refl
    by false = refl

  wrote_runs : (W : World) (f : List ℕ) (fs : List (List ℕ)) (w : Work) (r : Rendered) → (wrote I W f fs w r).runs ≡ W.runs
  wrote_runs W f fs w (Ok bytes) = refl
  wrote_runs W f fs w (Err e) = refl

  command_runs : (W : World) (w : Work) (a : Answer) (commands : List Command) → w.files ≡ [] → w.commands ≡ commands
      → (after_files_turn I W commands w a).runs ≡ W.runs ++ run_of (Turned a) (Running w)
  command_runs W w (Fine status) [] no_file is = no_run W _ refl
      ∙ ap (λ (l : List Run). W.runs ++ l) (sym (ap (λ (l : List (List ℕ)). run_at status l w.commands) no_file ∙ ap (run_at status []) is))
  command_runs W w (Fine status) (c ∷ rest) no_file is = ap (λ (l : List Run). W.runs ++ l)
      (sym (ap (λ (l : List (List ℕ)). run_at status l w.commands) no_file ∙ ap (run_at status []) is))
  command_runs W w NoRoom [] no_file is = no_run W _ refl
  command_runs W w NoRoom (c ∷ rest) no_file is = no_run W _ refl
  command_runs W w (FileFault left) [] no_file is = no_run W _ refl
  command_runs W w (FileFault left) (c ∷ rest) no_file is = no_run W _ refl
  command_runs W w NoSpawn [] no_file is = no_run W _ refl
  command_runs W w NoSpawn (c ∷ rest) no_file is = no_run W _ refl
  command_runs W w SyncFault [] no_file is = no_run W _ refl
  command_runs W w SyncFault (c ∷ rest) no_file is = no_run W _ refl
  command_runs W w (OwedFault stored) [] no_file is = no_run W _ refl
  command_runs W w (OwedFault stored) (c ∷ rest) no_file is = no_run W _ refl

  work_runs : (W : World) (w : Work) (a : Answer) (files : List (List ℕ)) → w.files ≡ files
      → (work_turn I W files w a).runs ≡ W.runs ++ run_of (Turned a) (Running w)
  work_runs W w a [] is = command_runs W w a w.commands is refl
  work_runs W w (Fine status) (f ∷ fs) is = no_run W _ (wrote_runs W f fs w (rendered I f W.held.live))
      ∙ ap (λ (l : List Run). W.runs ++ l) (sym (ap (λ (l : List (List ℕ)). run_at status l w.commands) is))
  work_runs W w NoRoom (f ∷ fs) is = no_run W _ refl
  work_runs W w (FileFault left) (f ∷ fs) is = no_run W _ refl
  work_runs W w NoSpawn (f ∷ fs) is = no_run W _ refl
  work_runs W w SyncFault (f ∷ fs) is = no_run W _ refl
  work_runs W w (OwedFault stored) (f ∷ fs) is = no_run W _ refl

  -- A turn without a running job runs nothing.
  rests_none : (a : Answer) (j : Job) → is_running j ≡ false → run_of (Turned a) j ≡ []
  rests_none (Fine status) Idle rests = refl
  rests_none (Fine status) (Failed c) rests = refl
  rests_none (Fine status) (Running w) rests = absurd (cc rests)
  rests_none NoRoom j rests = refl
  rests_none (FileFault left) j rests = refl
  rests_none NoSpawn j rests = refl
  rests_none SyncFault j rests = refl
  rests_none (OwedFault stored) j rests = refl

  turned_runs : (W : World) (j : Job) (a : Answer) → (job_turn I W j a).runs ≡ W.runs ++ run_of (Turned a) j
  turned_runs W Idle a = no_run W _ refl ∙ ap (λ (l : List Run). W.runs ++ l) (sym (rests_none a Idle refl))
  turned_runs W (Failed c) a = no_run W _ refl ∙ ap (λ (l : List Run). W.runs ++ l) (sym (rests_none a (Failed c) refl))
  turned_runs W (Running w) a = work_runs W w a w.files refl

  -- What an event adds to the programs that were run.
  next_runs : (W : World) (e : Event) → (next I W e).runs ≡ W.runs ++ run_of e W.job
  unfolding turn_next
  next_runs W (Opened boot o) = no_run W _ (opening_runs W boot o)
  next_runs W (Asked q o) = no_run W _ (request_runs W q o)
  next_runs W (Unread why) = no_run W _ refl
  next_runs W (Turned a) = turned_runs W W.job a
  next_runs W (Began version) = no_run W _ refl
  next_runs W (Moved version held) = no_run W _ refl
  next_runs W (Forgot keys) = no_run W _ refl

  -- No program is run without a job.
  none_of_rest : (e : Event) (j : Job) → is_running j ≡ false → run_of e j ≡ []
  none_of_rest (Opened boot o) j rests = refl
  none_of_rest (Asked q o) j rests = refl
  none_of_rest (Unread why) j rests = refl
  none_of_rest (Turned a) j rests = rests_none a j rests
  none_of_rest (Began version) j rests = refl
  none_of_rest (Moved version held) j rests = refl
  none_of_rest (Forgot keys) j rests = refl

  begun_runs : (j k : Job) (b : Bool) (o : Owed) (cs : List Course) → runs_in (begun_by j k b o cs) ≡ runs_in cs
  begun_runs Idle Idle b o cs = refl
  begun_runs Idle (Failed d) b o cs = refl
  begun_runs Idle (Running w) b o cs = append-nil (runs_in cs)
  begun_runs (Failed c) Idle b o cs = refl
  begun_runs (Failed c) (Failed d) b o cs = refl
  begun_runs (Failed c) (Running w) b o cs = append-nil (runs_in cs)
  begun_runs (Running v) Idle b o cs = refl
  begun_runs (Running v) (Failed d) b o cs = refl
  begun_runs (Running v) (Running w) true o cs = append-nil (runs_in cs)
  begun_runs (Running v) (Running w) false o cs = refl

  followed_runs : (j : Job) (rs : List Run) (ending : Ending) (cs : List Course) → (is_running j ≡ false → rs ≡ []) → IsHistoryOf I j cs
      → runs_in (followed (is_running j) rs ending cs) ≡ runs_in cs ++ rs
  followed_runs Idle rs ending cs none history = sym (ap (λ (l : List Run). runs_in cs ++ l) (none refl) ∙ append-nil (runs_in cs))
  followed_runs (Failed c) rs ending cs none history = sym (ap (λ (l : List Run). runs_in cs ++ l) (none refl) ∙ append-nil (runs_in cs))
  followed_runs (Running w) rs ending [] none history = absurd history
  followed_runs (Running w) rs ending (c ∷ cs) none history = sym (append_assoc (runs_in cs) c.ran rs)

  next_of_all : (W : World) (e : Event) (cs : List Course) → IsHistoryOf I W.job cs → runs_in (next_courses I W e cs) ≡ runs_in cs ++ run_of e W.job
  next_of_all W e cs history =
      begun_runs W.job (next I W e).job (is_last e W.job) (next I W e).held.owed
      (followed (is_running W.job) (run_of e W.job) (ending_of (is_last e W.job) (next I W e).job) cs)
      ∙ followed_runs W.job (run_of e W.job) (ending_of (is_last e W.job) (next I W e).job) cs (none_of_rest e W.job) history

  pub after_runs : (W : World) (events : List Event) (cs : List Course) (before : List Run) → IsHistoryOf I W.job cs → W.runs ≡ before ++ runs_in cs
      → (after I W events).runs ≡ before ++ runs_in (courses I W events cs)
  after_runs W [] cs before history are = are
  after_runs W (e ∷ es) cs before history are = after_runs (next I W e) es (next_courses I W e cs) before (next_history I W e cs history)
      (next_runs W e ∙ ap (λ (l : List Run). l ++ run_of e W.job) are ∙ append_assoc before (runs_in cs) (run_of e W.job)
      ∙ ap (λ (l : List Run). before ++ l) (sym (next_of_all W e cs history)))

no_jobs : (I : Image) (j : Job) → is_running j ≡ false → IsHistoryOf I j []
no_jobs I Idle rests = tt
no_jobs I (Failed c) rests = tt
no_jobs I (Running w) rests = absurd (cc rests)

pub jobs_run_in_order : JobsRunInOrder
jobs_run_in_order I W rests events = record {
  history = after_history I W events [] (no_jobs I W.job rests);
  runs = after_runs I W events [] W.runs (no_jobs I W.job rests) (sym (append-nil W.runs));
}
