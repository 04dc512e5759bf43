-- Each job runs the commands of what was owed when it began, in order.
use Rattle.std.proofs.Common.{◌≡◌, ◌≢◌, inl, inr, ℕ, zero, suc, Bool, true, false, not, ◌&&◌, if◌then◌else◌, List, [], ◌∷◌, ◌++◌, Option}
use Rattle.std.proofs.Common.{Some, None, Ok, Err, refl, sym, ◌∙◌, ap, subst, append_assoc}
use Rattle.std.proofs.lemmas.List.{append-nil}
use Rattle.std.specs.FinMap.{FinMap, get}
use Rattle.key_names.specs.Order.{key_cmp}
use Rattle.json_trees.specs.declared.pending.Pending.{Pending}
use Rattle.outside.specs.Spawner.{Run}
use Rattle.settings_tree.specs.declared.entry.Owed.{Owed}
use Rattle.settings_tree.specs.declared.entry.Owed.TheVariants as owed
use Rattle.metadata_links.specs.Links.{commands_of, files_of}
use Rattle.template_eval.specs.Rendered.{Rendered}
use Rattle.settings_machine.specs.declared.cause.Cause.{Cause}
use Rattle.settings_machine.specs.declared.cause.Cause.TheVariants as cause
use Rattle.settings_machine.specs.World.{Key, Image, World, Work, Job, Idle, Failed, Running, is_running, owes_none, rendered}
use Rattle.settings_machine.specs.Typed.{Wanted, first_wanted}
use Rattle.settings_machine.specs.Requests.{Request, Root, OsNames, Settings, SettingsAt, SettingsBelow}
use Rattle.settings_machine.specs.Requests.{Patch, Services, ConfigurationFiles, Affected, Pends, DropTx, TxList}
use Rattle.settings_machine.specs.Requests.{Commit, Apply, CommitAndApply, JobNow}
use Rattle.settings_machine.specs.Requests.{Set, ApplyAll, Guarded, Plan, PlanFile, Store, Verify}
use Rattle.settings_machine.specs.Step.{Outcome, Answered, WithoutMemory, Unopened, Faulted, Answer, Fine}
use Rattle.settings_machine.specs.Step.{NoRoom, FileFault, NoSpawn, SyncFault, OwedFault, noting, failing}
use Rattle.settings_machine.specs.Step.{patch_next, committed_world, commit_next, begun, asked_for, applied, commit_and_apply_next, set_world}
use Rattle.settings_machine.specs.Step.{set_next, changed_by, answered, request_next}
use Rattle.settings_machine.specs.Step.{wrote, file_turn, Command, ended, command_turn, last_turn, after_files_turn, work_turn, job_turn, turn_next, opened}
use Rattle.settings_machine.specs.Events.{Event, Opening, Succeeded, Failing, Opened, Asked, Unread, Turned, Began, Moved, Forgot, opening_next, next, after}
use Rattle.settings_machine.specs.Jobs.{Going, Done, Broken, Course, run_at, has_none, run_of, is_last, ending_of, followed, begun_by, courses_by, next_courses}
use Rattle.settings_machine.specs.Jobs.{courses, RunsAll, RunsInOrder, HaveEnded, IsHistoryOf}
use Rattle.settings_machine.proofs.Guards.{guarded_one}

-- ---- runs of commands

all_in_order : (front left : List Command) (rs : List Run) → RunsAll front rs → RunsInOrder (front ++ left) rs
all_in_order [] left [] all = tt
all_in_order [] left (r ∷ rs) all = absurd all
all_in_order (c ∷ front) left [] all = absurd all
all_in_order (c ∷ front) left (r ∷ rs) all = (all.0, inl (all.1, all_in_order front left rs all.2))

one_more : (front : List Command) (rs : List Run) (c : Command) (r : Run) → r.words ≡ c.1.1 → r.status ≡ 0 → RunsAll front rs
    → RunsAll (front ++ c ∷ []) (rs ++ r ∷ [])
one_more [] [] c r words status all = (words, status, tt)
one_more [] (s ∷ rs) c r words status all = absurd all
one_more (d ∷ front) [] c r words status all = absurd all
one_more (d ∷ front) (s ∷ rs) c r words status all = (all.0, all.1, one_more front rs c r words status all.2)

one_last : (front left : List Command) (rs : List Run) (c : Command) (r : Run) → r.words ≡ c.1.1 → r.status ≢ 0 → RunsAll front rs
    → RunsInOrder (front ++ c ∷ left) (rs ++ r ∷ [])
one_last [] left [] c r words status all = (words, inr (status, refl))
one_last [] left (s ∷ rs) c r words status all = absurd all
one_last (d ∷ front) left [] c r words status all = absurd all
one_last (d ∷ front) left (s ∷ rs) c r words status all = (all.0, inl (all.1, one_last front left rs c r words status all.2))

module _ (I : Image) where
  -- ---- events that run nothing

  -- The job after an event that runs no program and is no last turn: it rests, or begins, or is the same.
  pub data Leads (j : Job) (o : Owed) : Job → Type 0 where
    Rests : Leads j o Idle
    Fails : (c : Cause) → Leads j o (Failed c)
    Begins : is_running j ≡ false → (w : Work) → w.commands ≡ commands_of I.manifest o → w.files ≡ files_of I.manifest o → Leads j o (Running w)
    GoesOn : (v w : Work) → j ≡ Running v → w.commands ≡ v.commands → w.files ≡ v.files → Leads j o (Running w)

  broken : (w : Work) (cs : List Course) → IsHistoryOf I (Running w) cs → HaveEnded I (followed true [] Broken cs)
  broken w [] history = absurd history
  broken w (c ∷ cs) history = (
    subst (RunsInOrder (commands_of I.manifest c.owed)) (sym (append-nil c.ran)) (subst (λ (l : List Command). RunsInOrder l c.ran) (sym history.0.whole)
        (all_in_order history.0.done w.commands c.ran history.0.ran)),
    history.1,
  )

  first : (w : Work) (o : Owed) (cs : List Course) → w.commands ≡ commands_of I.manifest o → HaveEnded I cs
      → IsHistoryOf I (Running w) (record { owed = o; ran = []; ending = Going } ∷ cs)
  first w o cs all ended' = (record { going = refl; done = []; whole = sym all; ran = tt }, ended')

  going_on : (v w : Work) (cs : List Course) → w.commands ≡ v.commands → IsHistoryOf I (Running v) cs → IsHistoryOf I (Running w) (followed true [] Going cs)
  going_on v w [] same history = history
  going_on v w (c ∷ cs) same history = (
    record {
      going = refl;
      done = history.0.done;
      whole = history.0.whole ∙ ap (λ (l : List Command). history.0.done ++ l) (sym same);
      ran = subst (RunsAll history.0.done) (sym (append-nil c.ran)) history.0.ran;
    },
    history.1,
  )

  -- Such an event keeps the history.
  led : (j k : Job) (o : Owed) (cs : List Course) → Leads j o k → IsHistoryOf I j cs
      → IsHistoryOf I k (begun_by j k false o (followed (is_running j) [] (ending_of false k) cs))
  led Idle Idle o cs leads history = history
  led (Failed c) Idle o cs leads history = history
  led (Running v) Idle o cs leads history = broken v cs history
  led Idle (Failed d) o cs leads history = history
  led (Failed c) (Failed d) o cs leads history = history
  led (Running v) (Failed d) o cs leads history = broken v cs history
  led Idle (Running x) o cs (Begins rests w all files) history = first w o cs all history
  led Idle (Running x) o cs (GoesOn v w is same files) history = absurd (cc is)
  led (Failed c) (Running x) o cs (Begins rests w all files) history = first w o cs all history
  led (Failed c) (Running x) o cs (GoesOn v w is same files) history = absurd (cc is)
  led (Running v) (Running x) o cs (Begins rests w all files) history = absurd (cc rests)
  led (Running v) (Running x) o cs (GoesOn u w is same files) history =
      let one : v ≡ u = cc in
      going_on v w cs (same ∙ ap (λ (x : Work). x.commands) (sym one)) history

  pub same_leads : (j : Job) (o : Owed) → Leads j o j
  same_leads Idle o = Rests
  same_leads (Failed c) o = Fails c
  same_leads (Running w) o = GoesOn w w refl refl refl

  pub noting_leads : (j : Job) (keys : List Key) (o : Owed) → Leads j o (noting j keys)
  noting_leads Idle keys o = Rests
  noting_leads (Failed c) keys o = Fails c
  noting_leads (Running w) keys o = GoesOn w _ refl refl refl

  failing_leads : (j : Job) (c : Cause) (o : Owed) → Leads j o (failing j c)
  failing_leads Idle c o = Rests
  failing_leads (Failed d) c o = Fails d
  failing_leads (Running w) c o = Fails c

  asked_leads : (j : Job) (o : Owed) → Leads j o (asked_for I o j)
  asked_leads Idle o = Begins refl _ refl refl
  asked_leads (Failed c) o = Begins refl _ refl refl
  asked_leads (Running w) o = GoesOn w _ refl refl refl

  applied_leads : (W : World) → Leads W.job W.held.owed (applied I W).job
  applied_leads W = by (owes_none W.held.owed) where
    by : (b : Bool) → Leads W.job W.held.owed (if b then Idle else asked_for I W.held.owed W.job)
    by true = Rests
    by false = asked_leads W.job W.held.owed

  -- Apply on the world of a commit: the job that noted is asked for again, or begins.
  noted_asked : (j : Job) (keys : List Key) (o : Owed) → Leads j o (asked_for I o (noting j keys))
  noted_asked Idle keys o = Begins refl _ refl refl
  noted_asked (Failed c) keys o = Begins refl _ refl refl
  noted_asked (Running w) keys o = GoesOn w _ refl refl refl

  patch_leads : (W : World) (tx : List ℕ) (pairs : List (Key × Pending)) (o : Option Wanted)
      → Leads W.job (patch_next W tx pairs o).world.held.owed (patch_next W tx pairs o).world.job
  patch_leads W tx pairs None = same_leads W.job _
  patch_leads W tx pairs (Some wanted) = same_leads W.job _

  commit_leads : (W : World) (tx : List ℕ) (o : Option (FinMap key_cmp Pending)) → Leads W.job (commit_next W tx o).world.held.owed
      (commit_next W tx o).world.job
  commit_leads W tx None = same_leads W.job _
  commit_leads W tx (Some p) = noting_leads W.job _ _

  commit_and_apply_leads : (W : World) (tx : List ℕ) (o : Option (FinMap key_cmp Pending))
      → Leads W.job (commit_and_apply_next I W tx o).world.held.owed (commit_and_apply_next I W tx o).world.job
  commit_and_apply_leads W tx None = same_leads W.job _
  commit_and_apply_leads W tx (Some p) = by (owes_none (committed_world W tx).held.owed) where
    by : (b : Bool) → Leads W.job (committed_world W tx).held.owed (if b then Idle else asked_for I (committed_world W tx).held.owed (committed_world W tx).job)
    by true = Rests
    by false = noted_asked W.job _ _

  set_leads : (W : World) (pairs : List (Key × Pending)) (o : Option Wanted)
      → Leads W.job (set_next I W pairs o).world.held.owed (set_next I W pairs o).world.job
  set_leads W pairs None = by (owes_none (set_world W pairs).held.owed) where
    by : (b : Bool)
        → Leads W.job (set_world W pairs).held.owed (if b then Idle else asked_for I (set_world W pairs).held.owed (set_world W pairs).job)
    by true = Rests
    by false = noted_asked W.job _ _
  set_leads W pairs (Some wanted) = same_leads W.job _

  answered_leads : (W : World) (q : Request) → Leads W.job (answered I W q).world.held.owed (answered I W q).world.job
  answered_leads W Root = same_leads W.job _
  answered_leads W OsNames = same_leads W.job _
  answered_leads W Settings = same_leads W.job _
  answered_leads W (SettingsAt list) = same_leads W.job _
  answered_leads W (SettingsBelow key) = same_leads W.job _
  answered_leads W (Patch tx pairs) = patch_leads W tx pairs (first_wanted I.types pairs)
  answered_leads W (Services names) = same_leads W.job _
  answered_leads W (ConfigurationFiles names) = same_leads W.job _
  answered_leads W (Affected list) = same_leads W.job _
  answered_leads W (Pends tx) = same_leads W.job _
  answered_leads W (DropTx tx) = same_leads W.job _
  answered_leads W TxList = same_leads W.job _
  answered_leads W (Commit tx) = commit_leads W tx (get W.held.pending tx)
  answered_leads W Apply = applied_leads W
  answered_leads W (CommitAndApply tx) = commit_and_apply_leads W tx (get W.held.pending tx)
  answered_leads W JobNow = same_leads W.job _
  answered_leads W (Set pairs) = set_leads W pairs (first_wanted I.types pairs)
  answered_leads W ApplyAll = asked_leads W.job owed.All
  answered_leads W (Guarded q) =
      guarded_one I (λ (X : World). Leads W.job X.held.owed X.job) W (changed_by W q) (answered I W q) (same_leads W.job _) (answered_leads W q)
  answered_leads W (Plan tx) = same_leads W.job _
  answered_leads W (PlanFile file tx) = same_leads W.job _
  answered_leads W Store = same_leads W.job _
  answered_leads W Verify = same_leads W.job _

  pub request_leads : (W : World) (q : Request) (o : Outcome) → Leads W.job (request_next I W q o).world.held.owed (request_next I W q o).world.job
  unfolding request_next
  request_leads W q Answered = answered_leads W q
  request_leads W q WithoutMemory = same_leads W.job _
  request_leads W q (Unopened at) = same_leads W.job _
  request_leads W q (Faulted taken) = failing_leads W.job cause.Disk _

  opened_leads : (W : World) (boot : Bool) → Leads W.job (opened I W boot).held.owed (opened I W boot).job
  unfolding opened
  opened_leads W boot = noting_leads W.job _ _

  pub opening_leads : (W : World) (boot : Bool) (o : Opening) → Leads W.job (opening_next I W boot o).held.owed (opening_next I W boot o).job
  opening_leads W boot Succeeded = opened_leads W boot
  opening_leads W boot (Failing taken) = by taken where
    by : (b : Bool) → Leads W.job (if b then opened I W boot else W).held.owed (if b then opened I W boot else W).job
    by true = opened_leads W boot
    by false = same_leads W.job _

  -- ---- turns

  -- The programs that a turn runs, and whether it is the last, are as said.
  history_with : (e : Event) (w : Work) (k : Job) (o : Owed) (cs : List Course) (rs : List Run) (b : Bool) → run_of e (Running w) ≡ rs
      → is_last e (Running w) ≡ b
      → IsHistoryOf I k (begun_by (Running w) k b o (followed true rs (ending_of b k) cs)) → IsHistoryOf I k (courses_by e (Running w) k o cs)
  history_with e w k o cs rs b is_run is_b history =
      subst (λ (l : List Run). IsHistoryOf I k (begun_by (Running w) k (is_last e (Running w)) o (followed true l (ending_of (is_last e (Running w)) k) cs)))
      (sym is_run)
      (subst (λ c. IsHistoryOf I k (begun_by (Running w) k c o (followed true rs (ending_of c k) cs))) (sym is_b) history)

  -- The job ran one program more, with exit status 0.
  ran_on : (w v : Work) (c : Command) (rest : List Command) (r : Run) (cs : List Course) → w.commands ≡ c ∷ rest → v.commands ≡ rest → r.words ≡ c.1.1
      → r.status ≡ 0 → IsHistoryOf I (Running w) cs
      → IsHistoryOf I (Running v) (followed true (r ∷ []) Going cs)
  ran_on w v c rest r [] is left words status history = history
  ran_on w v c rest r (course ∷ cs) is left words status history = (
    record {
      going = refl;
      done = history.0.done ++ c ∷ [];
      whole = history.0.whole ∙ ap (λ (l : List Command). history.0.done ++ l) (is ∙ ap (λ (l : List Command). c ∷ l) (sym left))
          ∙ sym (append_assoc history.0.done (c ∷ []) v.commands);
      ran = one_more history.0.done course.ran c r words status history.0.ran;
    },
    history.1,
  )

  -- The job ran one program more, with another status.
  ran_last : (w : Work) (c : Command) (rest : List Command) (r : Run) (cs : List Course) → w.commands ≡ c ∷ rest → r.words ≡ c.1.1 → r.status ≢ 0
      → IsHistoryOf I (Running w) cs → HaveEnded I (followed true (r ∷ []) Broken cs)
  ran_last w c rest r [] is words status history = absurd history
  ran_last w c rest r (course ∷ cs) is words status history = (
    subst (λ (l : List Command). RunsInOrder l (course.ran ++ r ∷ [])) (sym (history.0.whole ∙ ap (λ (l : List Command). history.0.done ++ l) is))
        (one_last history.0.done rest course.ran c r words status history.0.ran),
    history.1,
  )

  -- The job has done all.
  done_all : (w : Work) (cs : List Course) → w.commands ≡ [] → IsHistoryOf I (Running w) cs → HaveEnded I (followed true [] Done cs)
  done_all w [] is history = absurd history
  done_all w (course ∷ cs) is history = (
    subst (RunsAll (commands_of I.manifest course.owed)) (sym (append-nil course.ran))
        (subst (λ (l : List Command). RunsAll l course.ran)
        (sym (history.0.whole ∙ ap (λ (l : List Command). history.0.done ++ l) is ∙ append-nil history.0.done)) history.0.ran),
    history.1,
  )

  module _ (W : World) (w : Work) (cs : List Course) (history : IsHistoryOf I (Running w) cs) where
    breaks : (e : Event) (c : Cause) (o : Owed) → run_of e (Running w) ≡ [] → is_last e (Running w) ≡ false
        → IsHistoryOf I (Failed c) (courses_by e (Running w) (Failed c) o cs)
    breaks e c o none not_last = history_with e w (Failed c) o cs [] false none not_last (broken w cs history)

    file_left : (f : List ℕ) (fs : List (List ℕ)) (a : Answer) → w.files ≡ f ∷ fs
        → IsHistoryOf I (file_turn I W f fs w a).job (courses_by (Turned a) (Running w) (file_turn I W f fs w a).job (file_turn I W f fs w a).held.owed cs)
    file_left f fs (Fine status) is = by (rendered I f W.held.live) where
      none : run_of (Turned (Fine status)) (Running w) ≡ []
      none = ap (λ (l : List (List ℕ)). run_at status l w.commands) is

      not_last : is_last (Turned (Fine status)) (Running w) ≡ false
      not_last = ap (λ (l : List (List ℕ)). has_none l w.commands) is

      by : (r : Rendered) → IsHistoryOf I (wrote I W f fs w r).job (courses_by (Turned (Fine status)) (Running w) (wrote I W f fs w r).job
          (wrote I W f fs w r).held.owed cs)
      by (Ok bytes) = history_with (Turned (Fine status)) w (Running (record w { files = fs })) W.held.owed cs [] false none not_last
          (going_on w (record w { files = fs }) cs refl history)
      by (Err e) = breaks (Turned (Fine status)) (cause.Render f e) W.held.owed none not_last
    file_left f fs NoRoom is = breaks (Turned NoRoom) cause.Memory W.held.owed refl refl
    file_left f fs (FileFault left) is = breaks (Turned (FileFault left)) cause.Disk W.held.owed refl refl
    file_left f fs NoSpawn is = breaks (Turned NoSpawn) cause.Disk W.held.owed refl refl
    file_left f fs SyncFault is = breaks (Turned SyncFault) cause.Disk W.held.owed refl refl
    file_left f fs (OwedFault stored) is = breaks (Turned (OwedFault stored)) cause.Disk W.held.owed refl refl

    command_left : (c : Command) (rest : List Command) (a : Answer) → w.files ≡ [] → w.commands ≡ c ∷ rest
        → IsHistoryOf I (command_turn W c rest w a).job (courses_by (Turned a) (Running w) (command_turn W c rest w a).job (command_turn W c rest w a).held.owed
        cs)
    command_left c rest (Fine status) no_file is = by status where
      runs_one : (n : ℕ) → run_of (Turned (Fine n)) (Running w) ≡ record { words = c.1.1; status = n } ∷ []
      runs_one n = ap (λ (l : List (List ℕ)). run_at n l w.commands) no_file ∙ ap (run_at n []) is

      not_last : (n : ℕ) → is_last (Turned (Fine n)) (Running w) ≡ false
      not_last n = ap (λ (l : List (List ℕ)). has_none l w.commands) no_file ∙ ap (has_none []) is

      by : (n : ℕ) → IsHistoryOf I (ended c rest w n) (courses_by (Turned (Fine n)) (Running w) (ended c rest w n) W.held.owed cs)
      by zero = history_with (Turned (Fine 0)) w (Running (record w { commands = rest })) W.held.owed cs (record { words = c.1.1; status = 0 } ∷ []) false
          (runs_one 0)
          (not_last 0)
          (ran_on w (record w { commands = rest }) c rest (record { words = c.1.1; status = 0 }) cs is refl refl refl history)
      by (suc n) = history_with (Turned (Fine (suc n))) w (Failed (cause.Status c.0 (suc n))) W.held.owed cs (record { words = c.1.1; status = suc n } ∷ [])
          false
          (runs_one (suc n)) (not_last (suc n))
          (ran_last w c rest (record { words = c.1.1; status = suc n }) cs is refl (λ e. cc) history)
    command_left c rest NoRoom no_file is = breaks (Turned NoRoom) cause.Memory W.held.owed refl refl
    command_left c rest (FileFault left) no_file is = breaks (Turned (FileFault left)) cause.Disk W.held.owed refl refl
    command_left c rest NoSpawn no_file is = breaks (Turned NoSpawn) (cause.Spawn c.0) W.held.owed refl refl
    command_left c rest SyncFault no_file is = breaks (Turned SyncFault) cause.Disk W.held.owed refl refl
    command_left c rest (OwedFault stored) no_file is = breaks (Turned (OwedFault stored)) cause.Disk W.held.owed refl refl

    none_left : (a : Answer) → w.files ≡ [] → w.commands ≡ []
        → IsHistoryOf I (last_turn I W w a).job (courses_by (Turned a) (Running w) (last_turn I W w a).job (last_turn I W w a).held.owed cs)
    none_left (Fine status) no_file no_command = by (w.again && not (owes_none (owed.Keys w.since))) where
      none : run_of (Turned (Fine status)) (Running w) ≡ []
      none = ap (λ (l : List (List ℕ)). run_at status l w.commands) no_file ∙ ap (run_at status []) no_command

      is_the_last : is_last (Turned (Fine status)) (Running w) ≡ true
      is_the_last = ap (λ (l : List (List ℕ)). has_none l w.commands) no_file ∙ ap (has_none []) no_command

      by : (b : Bool) → IsHistoryOf I (if b then begun I (owed.Keys w.since) else Idle)
          (courses_by (Turned (Fine status)) (Running w) (if b then begun I (owed.Keys w.since) else Idle) (owed.Keys w.since) cs)
      by true = history_with (Turned (Fine status)) w (begun I (owed.Keys w.since)) (owed.Keys w.since) cs [] true none is_the_last
          (first _ (owed.Keys w.since) (followed true [] Done cs) refl (done_all w cs no_command history))
      by false = history_with (Turned (Fine status)) w Idle (owed.Keys w.since) cs [] true none is_the_last (done_all w cs no_command history)
    none_left NoRoom no_file no_command = breaks (Turned NoRoom) cause.Memory W.held.owed refl refl
    none_left (FileFault left) no_file no_command = breaks (Turned (FileFault left)) cause.Disk W.held.owed refl refl
    none_left NoSpawn no_file no_command = breaks (Turned NoSpawn) cause.Disk W.held.owed refl refl
    none_left SyncFault no_file no_command = breaks (Turned SyncFault) cause.Disk W.held.owed refl refl
    none_left (OwedFault stored) no_file no_command = breaks (Turned (OwedFault stored)) cause.Disk (if stored then owed.Keys w.since else W.held.owed) refl
        refl

    after_files : (commands : List Command) (a : Answer) → w.files ≡ [] → w.commands ≡ commands
        → IsHistoryOf I (after_files_turn I W commands w a).job
        (courses_by (Turned a) (Running w) (after_files_turn I W commands w a).job (after_files_turn I W commands w a).held.owed cs)
    after_files [] a no_file is = none_left a no_file is
    after_files (c ∷ rest) a no_file is = command_left c rest a no_file is

    worked : (todo : List (List ℕ)) (a : Answer) → w.files ≡ todo
        → IsHistoryOf I (work_turn I W todo w a).job (courses_by (Turned a) (Running w) (work_turn I W todo w a).job (work_turn I W todo w a).held.owed cs)
    worked [] a is = after_files w.commands a is refl
    worked (f ∷ fs) a is = file_left f fs a is

  turned : (W : World) (j : Job) (a : Answer) (cs : List Course) → W.job ≡ j → IsHistoryOf I j cs
      → IsHistoryOf I (job_turn I W j a).job (courses_by (Turned a) j (job_turn I W j a).job (job_turn I W j a).held.owed cs)
  turned W Idle a cs is history = subst (λ (k : Job). IsHistoryOf I k (courses_by (Turned a) Idle k W.held.owed cs)) (sym is) history
  turned W (Failed c) a cs is history = subst (λ (k : Job). IsHistoryOf I k (courses_by (Turned a) (Failed c) k W.held.owed cs)) (sym is) history
  turned W (Running w) a cs is history = worked W w cs history w.files a refl

  -- ---- all events

  pub next_history : (W : World) (e : Event) (cs : List Course) → IsHistoryOf I W.job cs → IsHistoryOf I (next I W e).job (next_courses I W e cs)
  unfolding turn_next
  next_history W (Opened boot o) cs history = led W.job _ _ cs (opening_leads W boot o) history
  next_history W (Asked q o) cs history = led W.job _ _ cs (request_leads W q o) history
  next_history W (Unread why) cs history = led W.job _ _ cs (same_leads W.job W.held.owed) history
  next_history W (Turned a) cs history = turned W W.job a cs refl history
  next_history W (Began version) cs history = led W.job Idle owed.All cs Rests history
  next_history W (Moved version held) cs history = led W.job Idle owed.All cs Rests history
  next_history W (Forgot keys) cs history = led W.job _ _ cs (noting_leads W.job _ _) history

  pub after_history : (W : World) (events : List Event) (cs : List Course) → IsHistoryOf I W.job cs
      → IsHistoryOf I (after I W events).job (courses I W events cs)
  after_history W [] cs history = history
  after_history W (e ∷ es) cs history = after_history (next I W e) es (next_courses I W e cs) (next_history W e cs history)
